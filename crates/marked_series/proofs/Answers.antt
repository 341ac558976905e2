-- The answer for a marked series: the laws by which its entry is proved.
use Prim.Native.Nat.{ℕ, ◌≤◌, ◌<◌}
use mathlib.Core.List.{List}
use mathlib.Core.Path.{◌≡◌, sym, ◌∙◌, ap}
use borrow.Author.Rules.{rules}
use borrow.Author.Tests.{lt-ltb, le-ltb}
use Rattle.std.specs.Prelude.{Result, Ok, Err}
use Rattle.refusal.specs.declared.InputRefusal.{InputRefusal}
use Rattle.refusal.specs.Answer.{refused}
use Rattle.refusal.specs.Number.{input_number}
use Rattle.sheets.specs.Checked.{checked_number, sheet_first}
use Rattle.sheets.specs.Fault.{fault}
use Rattle.sheets.proofs.Checking.{sheet_passed, sheet_refused}
use Rattle.words.specs.Acceptance.{accepts_words_answer, acceptance_of}
use Rattle.marked_series.specs.Series.{whole_rings, accepts_series_answer}

module _ (s w : List ℕ) (mark : ℕ) where
  -- with the mark 0 or 1 it is the answer for the whole rings as a bare word
  pub answer_words : mark ≤ 1 → accepts_series_answer s w mark ≡ accepts_words_answer s (whole_rings mark w)
  unfolding accepts_series_answer accepts_words_answer
  answer_words h = rw (le-ltb 1 mark h)

  -- with another mark it is 34 behind the sheet's faults
  pub answer_refused : 1 < mark → accepts_series_answer s w mark ≡ sheet_first s (refused 34)
  unfolding accepts_series_answer
  answer_refused h = rw (lt-ltb 1 mark h)

  pub series_matched : mark ≤ 1 → (v : List ℕ) (r : Result ℕ InputRefusal) → v ≡ whole_rings mark w → acceptance_of r ≡ accepts_words_answer s v → acceptance_of r ≡ accepts_series_answer s w mark
  series_matched h v r e call = call ∙ ap (accepts_words_answer s) e ∙ sym (answer_words h)

  module _ (h : 1 < mark) (c : Result (Unit {0}) InputRefusal) (e : checked_number c ≡ fault s) where
    pub mark_refused : c ≡ Ok tt → refused 34 ≡ accepts_series_answer s w mark
    mark_refused a = sym (answer_refused h ∙ sheet_passed s _ c e a)

    pub fault_refused : (i : InputRefusal) → c ≡ Err i → refused (input_number i) ≡ accepts_series_answer s w mark
    fault_refused i a = sym (answer_refused h ∙ sheet_refused s _ c e i a)

pub ruleset series_laws = (series_matched, mark_refused, fault_refused, rules)
