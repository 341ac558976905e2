-- What the answers of an operation say of its outputs: the laws by which operations are proved.
use Prim.Native.Nat.{ℕ, ◌≤◌}
use mathlib.Core.Bool.{Bool, true, false, ◌||◌}
use mathlib.Core.List.{List}
use mathlib.Core.Logic.{⊎_elim}
use mathlib.Core.Path.{◌≡◌, sym, ◌∙◌, ap}
use native.Mathlib.Omega.{arith}
use borrow.Author.Tests.{ltb-false, eq-eqb, ne_eqb}
use lib.Dec.{ltb}
use lib.ListN.{length}
use Rattle.std.specs.Prelude.{Result, Ok, Err}
use Rattle.stores.specs.Written.{Written}
use Rattle.lists.proofs.Tests.{test, or_cases, or_false}
use Rattle.labels.specs.Checked.{checked_number}
use Rattle.labels.specs.Labels.{write_labels, labels_fault}
use Rattle.refusal.specs.Answer.{Answer, refused, given}
use Rattle.refusal.specs.Number.{input_number, number_of}
use Rattle.refusal.specs.declared.InputRefusal.{InputRefusal}
use Rattle.refusal.specs.declared.Refusal.{Refusal}
use Rattle.sheets.specs.Sheet.{write}
use Rattle.sheets.proofs.Checking.{refused_some}
use Rattle.output.specs.Made.{output_of}
use Rattle.output.specs.Output.{Pattern, outputs, room_first, labels_first}

-- a sheet and its labels written at the fronts of the outputs
pub made_given : (o l o' l' : List ℕ) (w b : ℕ) (P : Pattern) → Written o 0 (write P.automaton) o' w → Written l 0 (write_labels P.labels) l' b
    → output_of (Ok (record { words = w; bytes = b })) o' l' ≡ outputs o l (given P)
unfolding outputs
made_given o l o' l' w b P p q =
    let m : w ≡ length (write P.automaton) = omega (arith, p.behind) in
    let n : b ≡ length (write_labels P.labels) = omega (arith, q.behind) in
    rw (p.stored, m, q.stored, n)

-- a refusal leaves everything as it was
pub made_refused : (o l : List ℕ) (x : Refusal) (a : Answer Pattern) → a ≡ refused (number_of x) → output_of (Err x) o l ≡ outputs o l a
unfolding outputs
made_refused o l x a e = rw e

-- the answer of `lacks_room`
module _ {X : Type 0} (o l : List ℕ) (a : Answer X) (r : Bool) (e : r ≡ (ltb (length o) 10500 || ltb (length l) 16642)) where
  pub room_lacking : r ≡ true → room_first o l a ≡ refused 20
  unfolding room_first
  room_lacking h =
      ⊎_elim (λ (t : ltb (length o) 10500 ≡ true). rw t)
      (λ (f : ltb (length o) 10500 ≡ false).
      ⊎_elim (λ (t : ltb (length o) 10500 ≡ true). rw t) (λ (t : ltb (length l) 16642 ≡ true). rw (f, t)) (or_cases (ltb (length o) 10500) _ (sym e ∙ h)))
      (test (ltb (length o) 10500))

  pub room_enough : r ≡ false → room_first o l a ≡ a
  unfolding room_first
  room_enough h = let f = or_false (ltb (length o) 10500) _ (sym e ∙ h) in rw (f.0, f.1)

module _ (o l : List ℕ) (r : Bool) (e : r ≡ (ltb (length o) 10500 || ltb (length l) 16642)) (h : r ≡ false) where
  pub room_words : 10500 ≤ length o
  room_words = ltb-false _ _ (or_false (ltb (length o) 10500) _ (sym e ∙ h)).0

  pub room_bytes : 16642 ≤ length l
  room_bytes = ltb-false _ _ (or_false (ltb (length o) 10500) _ (sym e ∙ h)).1

-- what the check of the labels says of them, and of an answer that their fault precedes
pub labels_accepted : (n : ℕ) (b : List ℕ) (r : Result (Unit {0}) InputRefusal) → checked_number r ≡ labels_fault n b → r ≡ Ok tt → labels_fault n b ≡ 0
labels_accepted n b r e h = sym e ∙ ap checked_number h

module _ {X : Type 0} (n : ℕ) (b : List ℕ) (a : Answer X) (r : Result (Unit {0}) InputRefusal) (e : checked_number r ≡ labels_fault n b) where
  pub labels_passed : r ≡ Ok tt → labels_first n b a ≡ a
  unfolding labels_first
  labels_passed h = rw (eq-eqb (labels_fault n b) 0 (labels_accepted n b r e h))

  pub labels_refused : (i : InputRefusal) → r ≡ Err i → labels_first n b a ≡ refused (input_number i)
  unfolding labels_first
  labels_refused i h =
      let k : labels_fault n b ≡ input_number i = sym e ∙ ap checked_number h in
      rw (ne_eqb (labels_fault n b) 0 (λ z. refused_some i (sym k ∙ z))) (ap refused k)
