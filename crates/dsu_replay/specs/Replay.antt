-- The lines of the list, and what the run does at each.
use Rattle.std.specs.Prelude.{◌≡◌, ℕ, ◌+◌, ◌*◌, ◌%◌, ◌^◌, Bool, true, false, cond, Option, Some, None, Result, Ok, Err, List, length, ◌==◌, nat_lt, slice_index}
use Rattle.decimal.specs.Decimal.{is_digit, with_digit}
use Rattle.refusal.specs.declared.StateRefusal.{StateRefusal}
use Rattle.dsu.specs.declared.DSU.{DSU}
use Rattle.dsu.specs.declared.FindAnswer.{FindAnswer}
use Rattle.dsu.specs.declared.SetsAnswer.{SetsAnswer}
use Rattle.dsu.specs.Sets.{new_of, find_of, union_of}
use Rattle.dsu_replay.specs.declared.ReplayRun.{ReplayRun}
use Rattle.dsu_replay.specs.declared.Line.{Line}

-- the value of a digit's byte, 0 of any other
unfoldable pub digit_of : ℕ → ℕ
digit_of b = cond (is_digit b) (with_digit 0 b) 0

-- the number of the three digits from a place on
unfoldable pub three_digits : List ℕ → ℕ → ℕ
three_digits s at = 100 * digit_of (slice_index s at) + 10 * digit_of (slice_index s (at + 1)) + digit_of (slice_index s (at + 2))

-- a line of ten bytes: a letter and two numbers
unfoldable pub line_read : List ℕ → Line
line_read s = record { kind = slice_index s 0; a = three_digits s 2; b = three_digits s 6 }

-- what reading a line may answer: the end, or the line that some ten bytes are
pub data Readable (l : Option Line) : Type 0 where
  ended : l ≡ None → Readable l
  ten : (s : List ℕ) → length s ≡ 10 → l ≡ Some (line_read s) → Readable l

-- one answer more, which was as in the list or not; each count is modulo 2^64
unfoldable pub tallied_run : ReplayRun → Bool → ReplayRun
tallied_run s same =
    record {
      sets = s.sets;
      agreed = cond same ((s.agreed + 1) % 2 ^ 64) s.agreed;
      differed = cond same s.differed ((s.differed + 1) % 2 ^ 64);
    }

-- the run with other sets
abbrev pub with_sets : ReplayRun → DSU → ReplayRun
with_sets s d = record { sets = d; agreed = s.agreed; differed = s.differed }

-- whether an answer of `find` is the representative b
abbrev pub is_root : ℕ → Result ℕ StateRefusal → Bool
is_root b (Ok r) = r == b
is_root b (Err r) = false

-- whether an answer of `new` or `union` is no refusal
abbrev pub is_done : Result (Unit {0}) StateRefusal → Bool
is_done (Ok u) = true
is_done (Err r) = false

-- the run after a `find`, whose answer in the list is b
unfoldable pub after_find : ReplayRun → FindAnswer → ℕ → ReplayRun
after_find s f b = tallied_run (with_sets s f.sets) (is_root b f.found)

-- the run after a `new` or a `union`, which the list has no refusal of
unfoldable pub after_change : ReplayRun → SetsAnswer → ReplayRun
after_change s a = tallied_run (with_sets s a.sets) (is_done a.outcome)

-- whether one of 512 words, that at a, is b
unfoldable pub has_at : List ℕ → ℕ → ℕ → Bool
has_at x a b = cond (nat_lt a 512) (slice_index x a == b) false

-- the run after a line: n, u and f make, join and find; r and s compare a parent and a size
unfoldable pub after_line : ReplayRun → ℕ → ℕ → ℕ → ReplayRun
after_line s kind a b =
    cond (kind == 110) (after_change s (new_of a))
    (cond (kind == 117) (after_change s (union_of s.sets a b))
    (cond (kind == 102) (after_find s (find_of s.sets a) b)
    (cond (kind == 114) (tallied_run s (has_at s.sets.repr a b))
    (cond (kind == 115) (tallied_run s (has_at s.sets.size a b))
    (tallied_run s false)))))
