-- The answer of `is_equivalent`: the laws by which it is proved.
use Rattle.std.proofs.Common.{Bool, List, ℕ, ◌≡◌, sym, ◌∙◌, ap, rules, Result, Ok, Err}
use Rattle.refusal.specs.Answer.{given, refused}
use Rattle.refusal.specs.Number.{input_number}
use Rattle.refusal.specs.declared.InputRefusal.{InputRefusal}
use Rattle.sheets.specs.Checked.{checked_number}
use Rattle.sheets.specs.Fault.{fault}
use Rattle.sheets.specs.Sheet.{read}
use Rattle.sheets.proofs.Checking.{sheet_passed, sheet_refused}
use Rattle.equivalence.specs.Equivalent.{equivalent, equivalent_answer}

module _ (a b : List ℕ) (r : Result (Unit {0}) InputRefusal) (e : checked_number r ≡ fault a) where
  pub answer_first : (i : InputRefusal) → r ≡ Err i → refused (input_number i) ≡ equivalent_answer a b
  unfolding equivalent_answer
  answer_first i h = sym (sheet_refused a _ r e i h)

  module _ (p : r ≡ Ok tt) (s : Result (Unit {0}) InputRefusal) (f : checked_number s ≡ fault b) where
    pub answer_second : (i : InputRefusal) → s ≡ Err i → refused (input_number i) ≡ equivalent_answer a b
    unfolding equivalent_answer
    answer_second i h = sym (sheet_passed a _ r e p ∙ sheet_refused b _ s f i h)

    pub answer_given : s ≡ Ok tt → (t : Bool) → t ≡ equivalent (read a) (read b) → given t ≡ equivalent_answer a b
    unfolding equivalent_answer
    answer_given h t q = ap given q ∙ sym (sheet_passed a _ r e p ∙ sheet_passed b _ s f h)

pub ruleset answer_laws = (answer_first, answer_second, answer_given, rules)
