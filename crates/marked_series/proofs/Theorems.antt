-- What is proved of marked series (document 02, M-103). The answer of `accepts_series` is `accepts_series_answer s w mark`, for the sheet s and the series w:
--   series_unfinished   with the mark 1 the answer for w and one more ring is that of `accepts_words` for w, whatever the ring
--   series_whole        with the mark 0 it is that of `accepts_words` for w
--   series_empty        for the empty series it is that of `accepts_words`, with the mark 0 as with 1
--   series_given        an accept word is answered exactly where the sheet has no fault and the mark is 0 or 1
--   series_accepts      it is not 0 exactly where a run accepts the whole rings
--   series_bit          it is 0 or 1
--   series_some         no refusal has the number 0
--   series_fault        1 to 6 are answered exactly where the sheet has that fault
--   series_34           34 exactly where the sheet has no fault and the mark is over 1
use Prim.Native.Nat.{ℕ, zero, suc, ◌≤◌, ◌<◌}
use mathlib.Core.Bool.{true, false}
use mathlib.Core.List.{List, [], ◌∷◌, ◌++◌}
use mathlib.Core.Logic.{◌↔◌}
use mathlib.Core.Path.{◌≡◌, refl, sym, ◌∙◌, ap}
use native.Mathlib.Omega.{arith}
use borrow.Author.Tests.{ltb-true, ltb-false, lt-ltb, le-ltb}
use lib.Dec.{ltb}
use Rattle.std.specs.Prelude.{Ok}
use Rattle.automata.specs.Automaton.{Accepts}
use Rattle.refusal.specs.Answer.{Answer, refused, given}
use Rattle.refusal.proofs.Behind.{behind_given, behind_number, behind_refused}
use Rattle.sheets.specs.Fault.{fault}
use Rattle.sheets.specs.Sheet.{read}
use Rattle.sheets.proofs.Decisions.{given_not}
use Rattle.sheets.proofs.Numbers.{sheet_given, sheet_some, sheet_number, sheet_fault}
use Rattle.words.specs.Acceptance.{accepts_words_answer}
use Rattle.words.specs.Simulation.{kind}
use Rattle.words.proofs.Theorems.{accepts_words, accepts_words_bit}
use Rattle.marked_series.specs.Series.{whole_rings, mark_first, accepts_series_answer}
use Rattle.marked_series.proofs.Answers.{answer_words}
use Rattle.marked_series.proofs.Rings.{drop_last_append}

module _ (s w : List ℕ) where
  pub series_unfinished : (x : ℕ) → accepts_series_answer s (w ++ x ∷ []) 1 ≡ accepts_words_answer s w
  unfolding whole_rings
  series_unfinished x = answer_words s (w ++ x ∷ []) 1 (omega arith) ∙ ap (accepts_words_answer s) (drop_last_append w x)

  pub series_whole : accepts_series_answer s w 0 ≡ accepts_words_answer s w
  unfolding whole_rings
  series_whole = answer_words s w 0 (omega arith)

pub series_empty : (s : List ℕ) (mark : ℕ) → mark ≤ 1 → accepts_series_answer s [] mark ≡ accepts_words_answer s []
unfolding whole_rings
series_empty s mark h = answer_words s [] mark h ∙ ap (accepts_words_answer s) (none mark)
  where
    none : (m : ℕ) → whole_rings m [] ≡ []
    none zero = refl
    none (suc m) = refl

-- the test of the mark
module _ (mark : ℕ) where
  over : (ltb 1 mark ≡ true) ↔ (1 < mark)
  over = (ltb-true 1 mark, lt-ltb 1 mark)

  within : (ltb 1 mark ≡ false) ↔ (mark ≤ 1)
  within = (ltb-false 1 mark, le-ltb 1 mark)

module _ (s w : List ℕ) (mark : ℕ) where
  abbrev matched : Answer ℕ
  matched = given (kind (read s) (whole_rings mark w))

  pub series_given : ((k : ℕ) × (accepts_series_answer s w mark ≡ given k)) ↔ ((fault s ≡ 0) × (mark ≤ 1))
  unfolding accepts_series_answer
  series_given =
      let p = sheet_given s (mark_first mark matched) in
      let q = behind_given (ltb 1 mark) 34 matched (over mark) (within mark) in
      (λ (k, e). let (f, g) = (p k).0 e in (f, ((q k).0 g).0), λ (f, h). (_, (p _).1 (f, (q _).1 (h, refl))))

  module _ (k : ℕ) (e : accepts_series_answer s w mark ≡ given k) where
    of_words : given k ≡ accepts_words_answer s (whole_rings mark w)
    of_words = sym e ∙ answer_words s w mark (series_given.0 (k, e)).1

    pub series_accepts : (0 < k) ↔ Accepts (read s) (whole_rings mark w)
    series_accepts = accepts_words s (whole_rings mark w) (Ok k) of_words k refl

    pub series_bit : k ≤ 1
    series_bit = accepts_words_bit s (whole_rings mark w) (Ok k) of_words k refl

  -- no other number is answered by the mark
  other : (n : ℕ) → (n ≡ 34 → ⊥) → mark_first mark matched ≡ refused n → ⊥
  other n h e = given_not _ n ((behind_number (ltb 1 mark) 34 matched (over mark) (within mark) n h).0 e).1

  pub series_some : accepts_series_answer s w mark ≡ refused 0 → ⊥
  unfolding accepts_series_answer
  series_some e = other 0 (λ z. omega arith) (sheet_some s (mark_first mark matched) e)

  pub series_fault : (n : ℕ) → 0 < n → n ≤ 6 → (accepts_series_answer s w mark ≡ refused n) ↔ (fault s ≡ n)
  unfolding accepts_series_answer
  series_fault n l m = sheet_fault s (mark_first mark matched) n l (other n (λ z. omega arith))

  pub series_34 : (accepts_series_answer s w mark ≡ refused 34) ↔ ((fault s ≡ 0) × (1 < mark))
  unfolding accepts_series_answer
  series_34 =
      let p = sheet_number s (mark_first mark matched) 34 (omega arith) in
      let q = behind_refused (ltb 1 mark) 34 matched (over mark) (within mark) (given_not _ 34) in
      (λ e. let (f, g) = p.0 e in (f, q.0 g), λ (f, h). p.1 (f, q.1 h))
