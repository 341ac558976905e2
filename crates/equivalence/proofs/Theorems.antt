-- What is proved of `is_equivalent`:
--   equivalent_call, different_call: true is answered exactly when no pair that equal triggers reach differs, false exactly when one does
--   words_call: without epsilons or overlaps, an answer of true implies equal words
--   refused_call: a refusal is answered exactly when it is the first sheet's fault or, where that has none, the second's
--   equivalent_exact, different_exact, equivalent_words: the same of well-formed automata; an accepted sheet reads as one
--   sheets_exact, sheets_words, equivalent_refused: the same of the definition's answer for two sheets
use Rattle.std.proofs.Common.{ℕ, Bool, true, false, cond, List, ◌⊎◌, inl, inr, ⊎_elim, ◌↔◌, ◌≡◌, refl, sym, ap, ◌∙◌, arith, ne_eqb, eqb-true, eqb, Result, Ok, Err}
use borrow.Author.Tests.{eqb-false}
use Rattle.automata.specs.Automaton.{Automaton, Accepts, EpsilonFree}
use Rattle.automata.specs.WellFormed.{WellFormed}
use Rattle.refusal.specs.Answer.{refused, given}
use Rattle.refusal.specs.Decision.{decision_of}
use Rattle.refusal.specs.Number.{input_number}
use Rattle.refusal.specs.declared.InputRefusal.{InputRefusal}
use Rattle.sheets.specs.Checked.{sheet_first}
use Rattle.sheets.specs.Fault.{fault}
use Rattle.sheets.specs.Sheet.{read}
use Rattle.sheets.proofs.Accepted.{accepted}
use Rattle.sheets.proofs.Decisions.{number_some, call_is, call_refused, sheet_either, given_not}
use Rattle.sheets.proofs.Meaning.{read_well}
use Rattle.sheets.proofs.Numbers.{sheet_given, sheet_fault}
use Rattle.ranges.proofs.Functional.{overlap_functional}
use Rattle.ranges.specs.Span.{OverlapFree}
use Rattle.equivalence.specs.Equivalent.{ReachedByTriggers, Alike, equivalent, equivalent_answer}
use Rattle.equivalence.proofs.Exact.{exact, exact_false}
use Rattle.equivalence.proofs.Words.{words_beside, all_turn}

module _ (A B : Automaton) (v : WellFormed A) (u : WellFormed B) where
  -- true exactly when no pair that equal triggers reach differs in acceptance or in its triggers, false exactly when one does: in whatever
  -- order triggers and pairs are taken, this is the answer
  pub equivalent_exact : (equivalent A B ≡ true) ↔ ((p q : ℕ) → ReachedByTriggers A B p q → Alike A B p q)
  equivalent_exact = exact A B v.states u.states

  pub different_exact : (equivalent A B ≡ false) ↔ ((p q : ℕ) × ReachedByTriggers A B p q × (Alike A B p q → ⊥))
  different_exact = exact_false A B v.states u.states

  -- without epsilons or overlaps, true implies equal words
  pub equivalent_words : EpsilonFree A → EpsilonFree B → OverlapFree A → OverlapFree B → equivalent A B ≡ true → (w : List ℕ) → Accepts A w ↔ Accepts B w
  equivalent_words e f o r t w =
      let all = equivalent_exact.0 t in
      let a = overlap_functional A v e o in
      let b = overlap_functional B u f r in
      (words_beside A B v u a b all w, words_beside B A u v b a (all_turn A B all) w)

-- the same of two accepted sheets
module _ (a b : List ℕ) (first : fault a ≡ 0) (second : fault b ≡ 0) where
  answered : equivalent_answer a b ≡ given (equivalent (read a) (read b))
  unfolding equivalent_answer sheet_first
  answered = rw (first, second)

  is_given : (t : Bool) → equivalent_answer a b ≡ given t → equivalent (read a) (read b) ≡ t
  is_given t e = let c : given (equivalent (read a) (read b)) ≡ given t = sym answered ∙ e in cc

  pub sheets_exact : (equivalent_answer a b ≡ given true) ↔ ((p q : ℕ) → ReachedByTriggers (read a) (read b) p q → Alike (read a) (read b) p q)
  sheets_exact = let x = equivalent_exact (read a) (read b) (read_well a (accepted a first)) (read_well b (accepted b second)) in (λ e. x.0 (is_given true e), λ h. answered ∙ ap given (x.1 h))

  pub sheets_words : EpsilonFree (read a) → EpsilonFree (read b) → OverlapFree (read a) → OverlapFree (read b) → equivalent_answer a b ≡ given true
      → (w : List ℕ) → Accepts (read a) w ↔ Accepts (read b) w
  sheets_words e f o r t = equivalent_words (read a) (read b) (read_well a (accepted a first)) (read_well b (accepted b second)) e f o r (is_given true t)

-- a faulty sheet is answered with its fault, the first's before the second's, and there is no other refusal
pub equivalent_refused : (a b : List ℕ) (n : ℕ) → (equivalent_answer a b ≡ refused n) ↔ (((n ≡ fault a) × (fault a ≡ 0 → ⊥)) ⊎ ((fault a ≡ 0) × (n ≡ fault b) × (fault b ≡ 0 → ⊥)))
unfolding equivalent_answer sheet_first
equivalent_refused a b n = (
  λ e. by_first (eqb (fault a) 0) refl e,
  λ h. ⊎_elim (λ (q, f). rw (ne_eqb (fault a) 0 f) (ap refused (sym q))) (λ (f, q, g). rw (f, ne_eqb (fault b) 0 g) (ap refused (sym q))) h,
)
  where
    by_second : (t : Bool) → eqb (fault b) 0 ≡ t → cond t (given (equivalent (read a) (read b))) (refused (fault b)) ≡ refused n → (n ≡ fault b) × (fault b ≡ 0 → ⊥)
    by_second true t e = let z : ◌≡◌ {A = ℕ} 0 1 = cc in absurd (omega arith)
    by_second false t e = (cc, eqb-false _ _ t)

    by_first : (t : Bool) → eqb (fault a) 0 ≡ t → cond t (cond (eqb (fault b) 0) (given (equivalent (read a) (read b))) (refused (fault b))) (refused (fault a)) ≡ refused n
        → ((n ≡ fault a) × (fault a ≡ 0 → ⊥)) ⊎ ((fault a ≡ 0) × (n ≡ fault b) × (fault b ≡ 0 → ⊥))
    by_first true t e = let (q, f) = by_second (eqb (fault b) 0) refl e in inr (eqb-true _ _ t, q, f)
    by_first false t e = inl (cc, eqb-false _ _ t)

-- the contract of the call: r is its answer for the sheets a and b
module _ (a b : List ℕ) (r : Result Bool InputRefusal) (call : decision_of r ≡ equivalent_answer a b) where
  answer_is : (x : Bool) → (r ≡ Ok x) ↔ ((fault a ≡ 0) × (fault b ≡ 0) × (equivalent (read a) (read b) ≡ x))
  unfolding equivalent_answer
  answer_is x =
      let k = call_is r (equivalent_answer a b) call x in
      let first = sheet_given a (sheet_first b (given (equivalent (read a) (read b)))) x in
      let second = sheet_given b (given (equivalent (read a) (read b))) x in (
        λ e. let (f, h) = first.0 (k.0 e) in let (g, i) = second.0 h in (f, g, cc),
        λ (f, g, e). k.1 (first.1 (f, second.1 (g, ap given e))),
      )

  -- true exactly when the sheets have no fault and no pair of states that equal triggers reach differs in acceptance or in its triggers
  pub equivalent_call : (r ≡ Ok true) ↔ ((fault a ≡ 0) × (fault b ≡ 0) × ((p q : ℕ) → ReachedByTriggers (read a) (read b) p q → Alike (read a) (read b) p q))
  equivalent_call =
      let k = call_is r (equivalent_answer a b) call true in
      (λ e. let (f, g, h) = (answer_is true).0 e in (f, g, (sheets_exact a b f g).0 (k.0 e)), λ (f, g, h). k.1 ((sheets_exact a b f g).1 h))

  -- false exactly when they have no fault and one does
  pub different_call : (r ≡ Ok false) ↔ ((fault a ≡ 0) × (fault b ≡ 0) × ((p q : ℕ) × ReachedByTriggers (read a) (read b) p q × (Alike (read a) (read b) p q → ⊥)))
  different_call =
      let is = answer_is false in
      (λ e. let (f, g, h) = is.0 e in (f, g, (one f g).0 h), λ (f, g, h). is.1 (f, g, (one f g).1 h))
    where
      one : fault a ≡ 0 → fault b ≡ 0 → (equivalent (read a) (read b) ≡ false) ↔ ((p q : ℕ) × ReachedByTriggers (read a) (read b) p q × (Alike (read a) (read b) p q → ⊥))
      one f g = different_exact (read a) (read b) (read_well a (accepted a f)) (read_well b (accepted b g))

  -- without epsilons or overlaps, true implies equal words
  pub words_call : EpsilonFree (read a) → EpsilonFree (read b) → OverlapFree (read a) → OverlapFree (read b) → r ≡ Ok true → (w : List ℕ) → Accepts (read a) w ↔ Accepts (read b) w
  words_call e f o p t = let (g, h, i) = (answer_is true).0 t in sheets_words a b g h e f o p ((call_is r (equivalent_answer a b) call true).0 t)

  -- a refusal exactly when it is the first sheet's fault or, where that has none, the second's
  pub refused_call : (i : InputRefusal) → (r ≡ Err i) ↔ ((fault a ≡ input_number i) ⊎ ((fault a ≡ 0) × (fault b ≡ input_number i)))
  unfolding equivalent_answer
  refused_call i =
      let k = call_refused r (equivalent_answer a b) call i in
      let first = sheet_either a (sheet_first b (given (equivalent (read a) (read b)))) (input_number i) (number_some i) in
      let second = sheet_fault b (given (equivalent (read a) (read b))) (input_number i) (number_some i) (given_not _ _) in (
        λ e. ⊎_elim inl (λ (f, h). inr (f, second.0 h)) (first.0 (k.0 e)),
        λ h. k.1 (first.1 (⊎_elim inl (λ (f, e). inr (f, second.1 e)) h)),
      )
