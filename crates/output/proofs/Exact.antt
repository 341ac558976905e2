-- Exactly where an answer is a refusal with a number, and where it is given: behind the limits 21 and 22, and behind the faults of a sheet and of its
-- labels. And what that says of a call with such an answer.
use Rattle.std.proofs.Common.{Result}
use Prim.Native.Nat.{ℕ, ◌≤◌, ◌<◌}
use mathlib.Core.Bool.{Bool, true, false, cond}
use mathlib.Core.List.{List}
use mathlib.Core.Logic.{◌↔◌}
use mathlib.Core.Path.{◌≡◌, refl}
use native.Mathlib.Omega.{arith}
use borrow.Author.Tests.{lt-ltb, le-ltb, ltb-true, ltb-false}
use lib.Dec.{ltb}
use lib.ListN.{length}
use Rattle.automata.specs.Automaton.{Automaton}
use Rattle.automata.specs.WellFormed.{most_states, most_transitions}
use Rattle.labels.specs.Labels.{labels_fault, labels_ok}
use Rattle.refusal.specs.Answer.{Answer, refused, given}
use Rattle.refusal.specs.declared.Refusal.{Refusal}
use Rattle.sheets.specs.Checked.{sheet_first}
use Rattle.sheets.specs.Fault.{fault}
use Rattle.sheets.specs.Sheet.{state_count}
use Rattle.sheets.proofs.Numbers.{sheet_given, sheet_number, sheet_fault}
use Rattle.output.specs.declared.Made.{Made}
use Rattle.output.specs.Left.{made_number, Room}
use Rattle.output.specs.Made.{output_of}
use Rattle.output.specs.Output.{Pattern, outputs, room_first, labels_first, states_first, transitions_first}
use Rattle.output.proofs.Left.{labels_given, labels_number, call_given, call_20, call_number}

-- an answer behind the refusal r, which is given where n is over k
module _ {X : Type 0} (k n r : ℕ) (a : Answer X) where
  over_given : (x : X) → (cond (ltb k n) (refused r) a ≡ given x) ↔ ((n ≤ k) × (a ≡ given x))
  over_given x = (out (ltb k n) refl, λ (h, e). rw (le-ltb k n h) e)
    where
      out : (c : Bool) → ltb k n ≡ c → cond c (refused r) a ≡ given x → (n ≤ k) × (a ≡ given x)
      out true h e = let z : ◌≡◌ {A = ℕ} 0 1 = cc in absurd (omega arith)
      out false h e = (ltb-false k n h, e)

  over_number : (m : ℕ) → (m ≡ r → ⊥) → (cond (ltb k n) (refused r) a ≡ refused m) ↔ ((n ≤ k) × (a ≡ refused m))
  over_number m other = (out (ltb k n) refl, λ (h, e). rw (le-ltb k n h) e)
    where
      out : (c : Bool) → ltb k n ≡ c → cond c (refused r) a ≡ refused m → (n ≤ k) × (a ≡ refused m)
      out true h e = let z : m ≡ r = cc in absurd (other z)
      out false h e = (ltb-false k n h, e)

  over_limit : (a ≡ refused r → ⊥) → (cond (ltb k n) (refused r) a ≡ refused r) ↔ (k < n)
  over_limit other = (out (ltb k n) refl, λ h. rw (lt-ltb k n h))
    where
      out : (c : Bool) → ltb k n ≡ c → cond c (refused r) a ≡ refused r → k < n
      out true h e = ltb-true k n h
      out false h e = absurd (other e)

-- an answer behind the limits of A
module _ {X : Type 0} (A : Automaton) (a : Answer X) where
  -- it is given exactly where A has few enough states and the answer is given
  pub states_given : (x : X) → (states_first A a ≡ given x) ↔ ((A.size ≤ most_states) × (a ≡ given x))
  unfolding states_first
  states_given = over_given most_states A.size 21 a

  -- a number other than 21 is the answer's, where A has few enough
  pub states_number : (m : ℕ) → (m ≡ 21 → ⊥) → (states_first A a ≡ refused m) ↔ ((A.size ≤ most_states) × (a ≡ refused m))
  unfolding states_first
  states_number = over_number most_states A.size 21 a

  -- 21 is A's, where the answer doesn't have it
  pub states_21 : (a ≡ refused 21 → ⊥) → (states_first A a ≡ refused 21) ↔ (most_states < A.size)
  unfolding states_first
  states_21 = over_limit most_states A.size 21 a

  -- the same of transitions and 22
  pub transitions_given : (x : X) → (transitions_first A a ≡ given x) ↔ ((length A.transitions ≤ most_transitions) × (a ≡ given x))
  unfolding transitions_first
  transitions_given = over_given most_transitions (length A.transitions) 22 a

  pub transitions_number : (m : ℕ) → (m ≡ 22 → ⊥) → (transitions_first A a ≡ refused m) ↔ ((length A.transitions ≤ most_transitions) × (a ≡ refused m))
  unfolding transitions_first
  transitions_number = over_number most_transitions (length A.transitions) 22 a

  pub transitions_22 : (a ≡ refused 22 → ⊥) → (transitions_first A a ≡ refused 22) ↔ (most_transitions < length A.transitions)
  unfolding transitions_first
  transitions_22 = over_limit most_transitions (length A.transitions) 22 a

-- 10 is the fault of the labels, where the answer behind it doesn't have it
labels_10 : {X : Type 0} (n : ℕ) (b : List ℕ) (a : Answer X) → (a ≡ refused 10 → ⊥) → (labels_first n b a ≡ refused 10) ↔ (labels_fault n b ≡ 10)
unfolding labels_first labels_fault
labels_10 n b a other = (out (labels_ok n b) refl, into (labels_ok n b) refl)
  where
    out : (c : Bool) → labels_ok n b ≡ c → labels_first n b a ≡ refused 10 → labels_fault n b ≡ 10
    out true h e = absurd (other (rw h at e))
    out false h e = rw h

    into : (c : Bool) → labels_ok n b ≡ c → labels_fault n b ≡ 10 → labels_first n b a ≡ refused 10
    into true h f = let g = rw h at f in absurd (omega (arith, g))
    into false h f = rw h

-- an answer behind the faults of the sheet s and of its labels b
module _ {X : Type 0} (s b : List ℕ) (a : Answer X) where
  -- it is given exactly where there are none and the answer is given
  pub inputs_given : (x : X) → (sheet_first s (labels_first (state_count s) b a) ≡ given x) ↔ ((fault s ≡ 0) × (labels_fault (state_count s) b ≡ 0) × (a ≡ given x))
  inputs_given x =
      let p = sheet_given s (labels_first (state_count s) b a) x in
      let q = labels_given (state_count s) b a x in
      (λ e. let (f, h) = p.0 e in let (g, i) = q.0 h in (f, g, i), λ (f, g, i). p.1 (f, q.1 (g, i)))

  -- a number over 6 other than 10 is the answer's, where there are none
  inputs_number : (m : ℕ) → 6 < m → (m ≡ 10 → ⊥) → (sheet_first s (labels_first (state_count s) b a) ≡ refused m) ↔ ((fault s ≡ 0) × (labels_fault (state_count s) b ≡ 0) × (a ≡ refused m))
  inputs_number m l other =
      let p = sheet_number s (labels_first (state_count s) b a) m l in
      let q = labels_number (state_count s) b a m other in
      (λ e. let (f, h) = p.0 e in let (g, i) = q.0 h in (f, g, i), λ (f, g, i). p.1 (f, q.1 (g, i)))

  -- a number up to 6 is the sheet's, where the answer doesn't have it
  inputs_fault : (m : ℕ) → 1 ≤ m → m ≤ 6 → (a ≡ refused m → ⊥) → (sheet_first s (labels_first (state_count s) b a) ≡ refused m) ↔ (fault s ≡ m)
  inputs_fault m l u other =
      sheet_fault s (labels_first (state_count s) b a) m (omega arith) (λ e. other ((labels_number (state_count s) b a m (λ z. omega arith)).0 e).1)

  -- 10 is the labels', where the answer doesn't have it and the sheet has no fault
  pub inputs_10 : (a ≡ refused 10 → ⊥) → (sheet_first s (labels_first (state_count s) b a) ≡ refused 10) ↔ ((fault s ≡ 0) × (labels_fault (state_count s) b ≡ 10))
  inputs_10 other =
      let p = sheet_number s (labels_first (state_count s) b a) 10 (omega arith) in
      let q = labels_10 (state_count s) b a other in
      (λ e. let (f, h) = p.0 e in (f, q.0 h), λ (f, g). p.1 (f, q.1 g))

-- the contract of a call on the sheet s with the labels b, where the answer behind 20 and the faults of both is a
module _ (s b : List ℕ) (a : Answer Pattern) (o l o' l' : List ℕ) (r : Result Made Refusal) (call : output_of r o' l' ≡ outputs o l (room_first o l (sheet_first s (labels_first (state_count s) b a)))) where
  abbrev behind : Answer Pattern
  behind = sheet_first s (labels_first (state_count s) b a)

  -- nothing is refused exactly where there is room, nothing has a fault and a is given
  pub checked_given : (made_number r ≡ 0) ↔ (Room o l × (fault s ≡ 0) × (labels_fault (state_count s) b ≡ 0) × ((P : Pattern) × (a ≡ given P)))
  checked_given =
      let c = call_given o l o' l' r behind call in (
        λ h. let (k, x) = c.0 h in let (f, g, e) = (inputs_given s b a x.0).0 x.1 in (k, f, g, (x.0, e)),
        λ (k, f, g, x). c.1 (k, (x.0, (inputs_given s b a x.0).1 (f, g, x.1))),
      )

  -- 20 exactly where an output is too short
  pub checked_20 : (a ≡ refused 20 → ⊥) → (made_number r ≡ 20) ↔ (Room o l → ⊥)
  checked_20 other = call_20 o l o' l' r behind call (λ e. other ((inputs_number s b a 20 (omega arith) (λ z. omega arith)).0 e).2)

  -- 1 to 6 exactly where there is room and the sheet has that fault
  pub checked_fault : (m : ℕ) → 1 ≤ m → m ≤ 6 → (a ≡ refused m → ⊥) → (made_number r ≡ m) ↔ (Room o l × (fault s ≡ m))
  checked_fault m i j other =
      let c = call_number o l o' l' r behind call m (λ z. omega arith) (λ z. omega arith) in
      let p = inputs_fault s b a m i j other in
      (λ h. let (k, e) = c.0 h in (k, p.0 e), λ (k, f). c.1 (k, p.1 f))

  -- 10 exactly where there is room, the sheet has no fault and the labels have one
  pub checked_10 : (a ≡ refused 10 → ⊥) → (made_number r ≡ 10) ↔ (Room o l × (fault s ≡ 0) × (labels_fault (state_count s) b ≡ 10))
  checked_10 other =
      let c = call_number o l o' l' r behind call 10 (λ z. omega arith) (λ z. omega arith) in
      let p = inputs_10 s b a other in
      (λ h. let (k, e) = c.0 h in let (f, g) = p.0 e in (k, f, g), λ (k, f, g). c.1 (k, p.1 (f, g)))

  -- any other number exactly where there is room, nothing has a fault and a has that number
  pub checked_number_lem : (m : ℕ) → 6 < m → (m ≡ 10 → ⊥) → (m ≡ 20 → ⊥) → (made_number r ≡ m) ↔ (Room o l × (fault s ≡ 0) × (labels_fault (state_count s) b ≡ 0) × (a ≡ refused m))
  checked_number_lem m i j n =
      let c = call_number o l o' l' r behind call m (λ z. omega arith) n in
      let p = inputs_number s b a m i j in
      (λ h. let (k, e) = c.0 h in let (f, g, q) = p.0 e in (k, f, g, q), λ (k, f, g, q). c.1 (k, p.1 (f, g, q)))
