-- The answer of `is_nfa`, by the check of the sheet.
use Prim.Native.Nat.{ℕ}
use mathlib.Core.Bool.{Bool}
use mathlib.Core.List.{List}
use mathlib.Core.Path.{◌≡◌, sym, ◌∙◌, ap}
use borrow.Author.Rules.{rules}
use Rattle.std.specs.Prelude.{Result, Ok, Err}
use Rattle.refusal.specs.Answer.{refused, given}
use Rattle.refusal.specs.declared.InputRefusal.{InputRefusal}
use Rattle.refusal.specs.Number.{input_number}
use Rattle.sheets.specs.Checked.{checked_number}
use Rattle.sheets.specs.Fault.{fault}
use Rattle.sheets.specs.Sheet.{read}
use Rattle.sheets.proofs.Checking.{sheet_passed, sheet_refused}
use Rattle.nondeterminism.specs.Nondeterminism.{is_nfa, is_nfa_answer}

module _ (lower upper : ℕ) (s : List ℕ) (r : Result (Unit {0}) InputRefusal) (e : checked_number r ≡ fault s) where
  pub nfa_given : r ≡ Ok tt → (b : Bool) → b ≡ is_nfa lower upper (read s) → given b ≡ is_nfa_answer lower upper s
  unfolding is_nfa_answer
  nfa_given h b f = ap given f ∙ sym (sheet_passed s _ r e h)

  pub nfa_refused : (i : InputRefusal) → r ≡ Err i → refused (input_number i) ≡ is_nfa_answer lower upper s
  unfolding is_nfa_answer
  nfa_refused i h = sym (sheet_refused s _ r e i h)

pub ruleset is_nfa_laws = (nfa_given, nfa_refused, rules)
