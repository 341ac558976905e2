-- Laws of cases of inputs, of acceptance and of questions: the answer of a call is compared with the last number of the case.
use Prim.Native.Nat.{ℕ, ◌+◌}
use mathlib.Core.Bool.{Bool, true, false}
use mathlib.Core.List.{List}
use mathlib.Core.Path.{◌≡◌, sym, ◌∙◌, ap}
use borrow.Author.Rules.{rules}
use borrow.Author.Tests.{eq-eqb, ne_eqb}
use lib.ListN.{length}
use Rattle.std.specs.Prelude.{Result, Ok, Err}
use Rattle.emptiness.specs.Reachable.{reachable_answer}
use Rattle.equivalence.specs.Equivalent.{equivalent_answer}
use Rattle.refusal.specs.Decision.{decision_of}
use Rattle.refusal.specs.declared.InputRefusal.{InputRefusal}
use Rattle.refusal.specs.Number.{input_number}
use Rattle.replay.specs.Cases.{list_at, is_last}
use Rattle.sheets.specs.Checked.{checked_number}
use Rattle.sheets.specs.Fault.{fault}
use Rattle.nondeterminism.specs.Nondeterminism.{is_nfa_answer}
use Rattle.words.specs.Acceptance.{accepts_words_answer, acceptance_of}
use Rattle.replay_all.specs.Decided.{sheet_case, accepted, word_case, decided, nfa_case, nonempty_case, equivalent_case}

-- the answer of acceptance
module _ (s : List ℕ) (at : ℕ) (a : Result ℕ InputRefusal) where
  pub accepted_kind : (b : Bool) (k : ℕ) → a ≡ Ok k → b ≡ is_last s at k → b ≡ accepted s at (acceptance_of a)
  unfolding accepted
  accepted_kind b k e h = h ∙ ap (λ (x : Result ℕ InputRefusal). accepted s at (acceptance_of x)) (sym e)

  module _ (i : InputRefusal) (n : ℕ) (e : a ≡ Err i) (p : n ≡ input_number i) where
    pub accepted_malformed : (b : Bool) → n ≡ 9 → b ≡ is_last s at 9 → b ≡ accepted s at (acceptance_of a)
    unfolding accepted
    accepted_malformed b q h = h ∙ sym (ap (λ (x : Result ℕ InputRefusal). accepted s at (acceptance_of x)) e ∙ rw (eq-eqb (input_number i) 9 (sym p ∙ q)))

    pub accepted_refused : (n ≡ 9 → ⊥) → false ≡ accepted s at (acceptance_of a)
    unfolding accepted
    accepted_refused q = sym (ap (λ (x : Result ℕ InputRefusal). accepted s at (acceptance_of x)) e ∙ rw (ne_eqb (input_number i) 9 (λ z. q (p ∙ z))))

-- the answer to a question
module _ (s : List ℕ) (at : ℕ) (a : Result Bool InputRefusal) where
  pub decided_yes : (b x : Bool) → a ≡ Ok x → x ≡ true → b ≡ is_last s at 1 → b ≡ decided s at (decision_of a)
  unfolding decided
  decided_yes b x e t h = h ∙ sym (ap (λ (d : Result Bool InputRefusal). decided s at (decision_of d)) (e ∙ ap Ok t))

  pub decided_no : (b x : Bool) → a ≡ Ok x → x ≡ false → b ≡ is_last s at 0 → b ≡ decided s at (decision_of a)
  unfolding decided
  decided_no b x e t h = h ∙ sym (ap (λ (d : Result Bool InputRefusal). decided s at (decision_of d)) (e ∙ ap Ok t))

  pub decided_refused : (i : InputRefusal) → a ≡ Err i → false ≡ decided s at (decision_of a)
  unfolding decided
  decided_refused i e = sym (ap (λ (d : Result Bool InputRefusal). decided s at (decision_of d)) e)

-- the fault of a sheet
module _ (s sheet : List ℕ) (l : sheet ≡ list_at s 0) (c : Result (Unit {0}) InputRefusal) (h : checked_number c ≡ fault sheet) (b : Bool) where
  pub sheet_accepted : c ≡ Ok tt → b ≡ is_last s (1 + length sheet) 0 → b ≡ sheet_case s
  unfolding sheet_case
  sheet_accepted e p = cc (ap checked_number e)

  pub sheet_refused : (i : InputRefusal) (n : ℕ) → c ≡ Err i → n ≡ input_number i → b ≡ is_last s (1 + length sheet) n → b ≡ sheet_case s
  unfolding sheet_case
  sheet_refused i n e q p = cc (ap checked_number e)

-- one list, or two
module _ (s x : List ℕ) (l : x ≡ list_at s 0) (b : Bool) where
  module _ (a : Result Bool InputRefusal) (p : b ≡ decided s (1 + length x) (decision_of a)) where
    pub nfa_told : decision_of a ≡ is_nfa_answer 0 4294967295 x → b ≡ nfa_case s
    unfolding nfa_case
    nfa_told h = cc

    pub nonempty_told : decision_of a ≡ reachable_answer x → b ≡ nonempty_case s
    unfolding nonempty_case
    nonempty_told h = cc

  module _ (y : List ℕ) (k : y ≡ list_at s (1 + length x)) where
    pub word_told : (a : Result ℕ InputRefusal) → b ≡ accepted s (1 + length x + 1 + length y) (acceptance_of a) → acceptance_of a ≡ accepts_words_answer x y → b ≡ word_case s
    unfolding word_case
    word_told a p h = cc

    pub equivalent_told : (a : Result Bool InputRefusal) → b ≡ decided s (1 + length x + 1 + length y) (decision_of a) → decision_of a ≡ equivalent_answer x y → b ≡ equivalent_case s
    unfolding equivalent_case
    equivalent_told a p h = cc

pub ruleset accepted_laws = (accepted_kind, accepted_malformed, accepted_refused, rules)

pub ruleset decided_laws = (decided_yes, decided_no, decided_refused, rules)

pub ruleset sheet_laws = (sheet_accepted, sheet_refused, rules)

pub ruleset told_laws = (nfa_told, nonempty_told, word_told, equivalent_told, rules)
