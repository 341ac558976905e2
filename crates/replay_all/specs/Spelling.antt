-- Cases of writing: a sheet, its labels, then the refusal's number, or 0 and the text as a list.
use Rattle.std.specs.Prelude.{ℕ, ◌+◌, Bool, false, cond, List, eqb, leb, ltb, length, get_or, take, replicate}
use Rattle.labels.specs.Labels.{same_label}
use Rattle.refusal.specs.Answer.{Answer, refused, given}
use Rattle.refusal.specs.Outcome.{Outcome}
use Rattle.replay.specs.Cases.{list_at, is_last}
use Rattle.writer.specs.Text.{text_size, write_answer, write_outcome}
use Rattle.replay_all.specs.Parts.{behind_list, are_bytes}

-- a 0 and the bytes as a list stand in the case from the place on, and nothing behind them
unfoldable pub is_spelled : List ℕ → ℕ → List ℕ → Bool
is_spelled s at bs =
    cond (leb (length s) at) false
    (cond (eqb (get_or s at 0) 0)
    (cond (eqb (behind_list s (at + 1)) (length s)) (cond (are_bytes 4096 (list_at s (at + 1))) (same_label (list_at s (at + 1)) bs) false) false)
    false)

-- the answer of writing with the buffer bs stands in the case from the place on
unfoldable pub is_wrote : List ℕ → ℕ → Answer ℕ → List ℕ → Bool
is_wrote s at (refused n) bs = is_last s at n
is_wrote s at (given n) bs = cond (ltb (length bs) n) false (is_spelled s at (take n bs))

-- the outcome of writing stands there
abbrev pub is_text : List ℕ → ℕ → Outcome ℕ (List ℕ) → Bool
is_text s at o = is_wrote s at o.answer o.memory

-- the buffer that is lent
abbrev pub buffer : List ℕ
buffer = replicate text_size 0

-- a sheet, its labels, then the outcome of writing them
unfoldable pub write_case : List ℕ → Bool
write_case s =
    cond (are_bytes 16642 (list_at s (behind_list s 0)))
    (is_text s (behind_list s (behind_list s 0)) (write_outcome buffer (write_answer (list_at s 0) (list_at s (behind_list s 0)) buffer)))
    false
