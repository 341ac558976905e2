-- The numbers of a sheet's faults are at most 6: none of them is the number of another refusal. What an answer behind them says.
use Prim.Native.Nat.{ℕ, zero, suc, ◌*◌, ◌≤◌, ◌<◌}
use mathlib.Core.Bool.{Bool, true, false, cond, ◌||◌}
use mathlib.Core.List.{List, [], ◌∷◌}
use mathlib.Core.Logic.{◌↔◌}
use mathlib.Core.Path.{◌≡◌, refl}
use native.Mathlib.Omega.{arith}
use borrow.Author.Tests.{eqb-true, eqb-false}
use lib.Dec.{leb, ltb, eqb}
use lib.ListN.{length, take, drop}
use Rattle.automata.specs.Automaton.{Transition}
use Rattle.automata.specs.Ordered.{less}
use Rattle.automata.specs.Records.{words_of, read_records}
use Rattle.automata.specs.WellFormed.{most_states, most_transitions}
use Rattle.refusal.specs.Answer.{Answer, refused, given}
use Rattle.sheets.specs.Checked.{sheet_first}
use Rattle.sheets.specs.Fault.{or_else, accept_words, is_bad, record_fault, records_fault, transitions_fault, states_fault, fault}

either : (b : Bool) (x y : ℕ) → x ≤ 6 → y ≤ 6 → cond b x y ≤ 6
either true x y h k = h
either false x y h k = k

first : (f g : ℕ) → f ≤ 6 → g ≤ 6 → or_else f g ≤ 6
first zero g h k = k
first (suc f) g h k = h

record_most : (n : ℕ) (before : List ℕ) (e : Transition) → record_fault n before e ≤ 6
unfolding record_fault
record_most n before e = either (is_bad n e) 5 _ (omega arith) (either (less before (words_of e)) 0 6 (omega arith) (omega arith))

records_most : (n : ℕ) (before : List ℕ) (es : List Transition) → records_fault n before es ≤ 6
unfolding records_fault
records_most n before [] = omega arith
records_most n before (e ∷ es) = first (record_fault n before e) _ (record_most n before e) (records_most n (words_of e) es)

transitions_most : (n : ℕ) (t : List ℕ) → transitions_fault n t ≤ 6
unfolding transitions_fault
transitions_most n [] = omega arith
transitions_most n (m ∷ t) = either (ltb most_transitions m) 3 _ (omega arith) (either (eqb (length t) (5 * m)) _ 1 (records_most n [] (read_records t)) (omega arith))

states_most : (start : ℕ) (t : List ℕ) → states_fault start t ≤ 6
unfolding states_fault
states_most start [] = omega arith
states_most start (n ∷ t) =
    either (eqb n 0 || ltb most_states n) 3 _ (omega arith)
    (either (ltb (length t) n) 1 _ (omega arith)
    (either (leb n start) 2 _ (omega arith) (either (accept_words (take n t)) _ 4 (transitions_most n (drop n t)) (omega arith))))

pub fault_most : (s : List ℕ) → fault s ≤ 6
unfolding fault
fault_most [] = omega arith
fault_most (x ∷ []) = omega arith
fault_most (x ∷ y ∷ s) = either (eqb x 1) _ 2 (states_most y s) (omega arith)

-- an answer behind the sheet's faults
module _ {X : Type 0} (s : List ℕ) (a : Answer X) where
  -- is the answer where there is none
  pub sheet_first_lem : fault s ≡ 0 → sheet_first s a ≡ a
  unfolding sheet_first
  sheet_first_lem f = rw f

  -- it is given exactly where there is none and the answer is given
  pub sheet_given : (x : X) → (sheet_first s a ≡ given x) ↔ ((fault s ≡ 0) × (a ≡ given x))
  unfolding sheet_first
  sheet_given x = (out (eqb (fault s) 0) refl, λ (f, e). rw (f, e))
    where
      out : (c : Bool) → eqb (fault s) 0 ≡ c → cond c a (refused (fault s)) ≡ given x → (fault s ≡ 0) × (a ≡ given x)
      out true h e = (eqb-true _ _ h, e)
      out false h e = let z : ◌≡◌ {A = ℕ} 0 1 = cc in absurd (omega arith)

  -- 0 is no fault's number
  pub sheet_some : sheet_first s a ≡ refused 0 → a ≡ refused 0
  unfolding sheet_first
  sheet_some = go (eqb (fault s) 0) refl
    where
      go : (c : Bool) → eqb (fault s) 0 ≡ c → cond c a (refused (fault s)) ≡ refused 0 → a ≡ refused 0
      go true h e = e
      go false h e = let z : fault s ≡ 0 = cc in absurd (eqb-false (fault s) 0 h z)

  -- a number over 6 is the answer's, where there is none
  pub sheet_number : (n : ℕ) → 6 < n → (sheet_first s a ≡ refused n) ↔ ((fault s ≡ 0) × (a ≡ refused n))
  unfolding sheet_first
  sheet_number n l = (out (eqb (fault s) 0) refl, λ (f, e). rw (f, e))
    where
      out : (c : Bool) → eqb (fault s) 0 ≡ c → cond c a (refused (fault s)) ≡ refused n → (fault s ≡ 0) × (a ≡ refused n)
      out true h e = (eqb-true _ _ h, e)
      out false h e = let z : fault s ≡ n = cc in absurd (omega (arith, fault_most s))

  -- a fault's number is the sheet's, where the answer doesn't have it
  pub sheet_fault : (n : ℕ) → 0 < n → (a ≡ refused n → ⊥) → (sheet_first s a ≡ refused n) ↔ (fault s ≡ n)
  unfolding sheet_first
  sheet_fault n l other = (out (eqb (fault s) 0) refl, into (eqb (fault s) 0) refl)
    where
      out : (c : Bool) → eqb (fault s) 0 ≡ c → cond c a (refused (fault s)) ≡ refused n → fault s ≡ n
      out true h e = absurd (other e)
      out false h e = cc

      into : (c : Bool) → eqb (fault s) 0 ≡ c → fault s ≡ n → cond c a (refused (fault s)) ≡ refused n
      into true h e = let z : fault s ≡ 0 = eqb-true _ _ h in absurd (omega arith)
      into false h e = rw e
