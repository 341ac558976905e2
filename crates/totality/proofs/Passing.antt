-- The check of the inputs: what is known where they pass, and the refusal that comes first where they do not.
use Prim.Native.Nat.{ℕ, ◌≤◌}
use mathlib.Core.Bool.{Bool, true, false, ◌||◌}
use mathlib.Core.List.{List}
use mathlib.Core.Logic.{◌⊎◌, inl, inr, ⊎_elim}
use mathlib.Core.Path.{◌≡◌, refl, sym, ◌∙◌, ap}
use native.Mathlib.Omega.{arith}
use borrow.Author.Rules.{rules}
use borrow.Author.Tests.{eqb-true}
use lib.Dec.{ltb, eqb}
use lib.ListN.{length}
use Rattle.std.specs.Prelude.{Result, Ok, Err}
use Rattle.lists.proofs.Tests.{test}
use Rattle.labels.specs.Labels.{labels_fault}
use Rattle.output.specs.Output.{labels_first}
use Rattle.output.proofs.Answers.{room_lacking, room_enough, room_words, room_bytes, labels_passed, labels_refused}
use Rattle.refusal.specs.Answer.{Answer, refused}
use Rattle.refusal.specs.declared.InputRefusal.{InputRefusal}
use Rattle.refusal.specs.declared.Refusal.{Refusal}
use Rattle.refusal.specs.Number.{input_number, number_of}
use Rattle.sheets.specs.Checked.{checked_number, sheet_first}
use Rattle.sheets.specs.Fault.{fault}
use Rattle.sheets.proofs.Checking.{sheet_passed, sheet_refused}
use Rattle.sheets.proofs.Accepted.{accepted}
use Rattle.sheets.specs.inner.Accepted.{Accepted}
use Rattle.sheets.specs.Sheet.{state_count}
use Rattle.totality.specs.inner.Answers.{inputs_first, inputs_of, passed}

-- the check of the inputs
module _ (s b o l : List ℕ) (r : Bool) (e : r ≡ (ltb (length o) 10500 || ltb (length l) 16642)) where
  pub inputs_short : r ≡ true → refused 20 ≡ inputs_first s b o l passed
  unfolding inputs_first
  inputs_short h = sym (room_lacking o l _ r e h)

  module _ (h : r ≡ false) (f : Result (Unit {0}) InputRefusal) (g : checked_number f ≡ fault s) where
    pub inputs_sheet : (i : InputRefusal) → f ≡ Err i → refused (input_number i) ≡ inputs_first s b o l passed
    unfolding inputs_first
    inputs_sheet i p = sym (room_enough o l _ r e h ∙ sheet_refused s _ f g i p)

    module _ (p : f ≡ Ok tt) (k : Result (Unit {0}) InputRefusal) (m : checked_number k ≡ labels_fault (state_count s) b) where
      pub inputs_labels : (i : InputRefusal) → k ≡ Err i → refused (input_number i) ≡ inputs_first s b o l passed
      unfolding inputs_first
      inputs_labels i q = sym (room_enough o l _ r e h ∙ sheet_passed s _ f g p ∙ labels_refused (state_count s) b passed k m i q)

      pub inputs_good : k ≡ Ok tt → passed ≡ inputs_first s b o l passed
      unfolding inputs_first
      inputs_good q = sym (room_enough o l _ r e h ∙ sheet_passed s _ f g p ∙ labels_passed (state_count s) b passed k m q)

pub ruleset check_laws = (inputs_short, inputs_sheet, inputs_labels, inputs_good, rules)

-- inputs without a refusal
pub record AcceptedInputs (s b o l : List ℕ) : Type 0 where
  pub sheet : Accepted s
  pub label_list : labels_fault (state_count s) b ≡ 0
  pub words : 10500 ≤ length o
  pub bytes : 16642 ≤ length l

-- the inputs pass, and any answer stands; or they have a refusal, and it comes first
module _ {X : Type 0} (s b o l : List ℕ) (a : Answer X) where
  inputs_cases :
      (AcceptedInputs s b o l × (inputs_first s b o l passed ≡ passed) × (inputs_first s b o l a ≡ a))
      ⊎ ((n : ℕ) × (inputs_first s b o l passed ≡ refused n) × (inputs_first s b o l a ≡ refused n))
  unfolding inputs_first sheet_first labels_first
  inputs_cases =
      let r = ltb (length o) 10500 || ltb (length l) 16642 in
      ⊎_elim (λ (t : r ≡ true). inr (20, room_lacking o l _ r refl t, room_lacking o l _ r refl t))
      (λ (t : r ≡ false).
      ⊎_elim
      (λ (u : eqb (fault s) 0 ≡ true).
      ⊎_elim
      (λ (v : eqb (labels_fault (state_count s) b) 0 ≡ true).
      inl (
        record {
          sheet = accepted s (eqb-true _ _ u);
          label_list = eqb-true _ _ v;
          words = room_words o l r refl t;
          bytes = room_bytes o l r refl t;
        },
        room_enough o l _ r refl t ∙ rw (u, v),
        room_enough o l _ r refl t ∙ rw (u, v),
      ))
      (λ (v : eqb (labels_fault (state_count s) b) 0 ≡ false).
      inr (labels_fault (state_count s) b, room_enough o l _ r refl t ∙ rw (u, v), room_enough o l _ r refl t ∙ rw (u, v)))
      (test (eqb (labels_fault (state_count s) b) 0)))
      (λ (u : eqb (fault s) 0 ≡ false). inr (fault s, room_enough o l _ r refl t ∙ rw u, room_enough o l _ r refl t ∙ rw u))
      (test (eqb (fault s) 0)))
      (test r)

  module _ (r : Result (Unit {0}) Refusal) (e : inputs_of r ≡ inputs_first s b o l passed) where
    pub passed_inputs : r ≡ Ok tt → AcceptedInputs s b o l × (inputs_first s b o l a ≡ a)
    passed_inputs h =
        ⊎_elim (λ c. (c.0, c.2))
        (λ c.
        let d : passed ≡ refused c.0 = ap inputs_of (sym h) ∙ e ∙ c.1 in
        let z : ◌≡◌ {A = ℕ} 0 1 = cc in
        absurd (omega arith))
        inputs_cases

    pub refused_inputs : (x : Refusal) → r ≡ Err x → inputs_first s b o l a ≡ refused (number_of x)
    refused_inputs x h =
        ⊎_elim
        (λ c.
        let d : passed ≡ refused (number_of x) = sym c.1 ∙ sym e ∙ ap inputs_of h in
        let z : ◌≡◌ {A = ℕ} 0 1 = cc in
        absurd (omega arith))
        (λ c.
        let d : ◌≡◌ {A = Answer Bool} (refused c.0) (refused (number_of x)) = sym c.1 ∙ sym e ∙ ap inputs_of h in
        let z : c.0 ≡ number_of x = cc in
        c.2 ∙ ap refused z)
        inputs_cases
