-- The automaton made from a finished table: where its transitions come from, and its accept words.
use Prim.Native.Nat.{ℕ, zero, suc, ◌+◌, ◌<◌}
use mathlib.Core.Bool.{Bool, true, false, cond}
use mathlib.Core.List.Memᴰ
use mathlib.Core.List.{List, [], ◌∷◌, map}
use mathlib.Core.Logic.{⊎_elim, ◌↔◌}
use mathlib.Core.Path.{◌≡◌, refl, ◌∙◌, ap}
use native.Mathlib.Omega.{arith}
use borrow.Author.Tests.{eqb-true, eqb-false}
use lib.Dec.{eqb}
use lib.ListN.{get_or, length}
use Rattle.lists.specs.Lists.{◌∈◌}
use Rattle.lists.proofs.Members.{map_in, map_out}
use Rattle.automata.specs.Automaton.{Transition, Automaton}
use Rattle.automata.specs.Pairs.{Pair}
use Rattle.product.specs.Product.{Joint, joints_from, transition_of_joint, transitions_from, pair_accept}

-- an image at a place within the list
module _ (A B : Automaton) where
  -- the pair that stands for the start where a table has no entry
  abbrev pub start_pair : Pair
  start_pair = record { left = A.start; right = B.start }

  pub accept_both : (p : Pair) → (0 < pair_accept A B p) ↔ ((0 < get_or A.accept p.left 0) × (0 < get_or B.accept p.right 0))
  unfolding pair_accept
  accept_both p = go (eqb y 0) refl
    where
      x : ℕ
      x = get_or A.accept p.left 0

      y : ℕ
      y = get_or B.accept p.right 0

      go : (b : Bool) → eqb y 0 ≡ b → (0 < cond b 0 x) ↔ ((0 < x) × (0 < y))
      go true e = (λ h. absurd (omega arith), λ h. let z = eqb-true y 0 e in absurd (omega (arith, h.1)))
      go false e = (λ h. (h, let z = eqb-false y 0 e in omega arith), λ h. h.0)

  module _ (f : Pair → ℕ) where
    -- where a transition comes from: a joint of a pair
    pub record Origin (i : ℕ) (ps : List Pair) (t : Transition) : Type 0 where
      pub place : ℕ
      pub near : place < length ps
      pub joint : Joint
      pub «in» : joint ∈ joints_from A B (get_or ps place start_pair)
      pub is : t ≡ transition_of_joint f (i + place) joint

    pub origin : (i : ℕ) (ps : List Pair) (t : Transition) → t ∈ transitions_from f A B i ps → Origin i ps t
    unfolding transitions_from
    origin i [] t m = elim m [ ]
    origin i (p ∷ ps) t m =
        ⊎_elim
        (λ k.
        let r = map_out (transition_of_joint f i) (joints_from A B p) t k in
        let z : i ≡ i + 0 = omega arith in
        record { place = 0; near = omega arith; joint = r.0; «in» = r.1; is = r.2 ∙ ap (λ n. transition_of_joint f n r.0) z })
        (λ k.
        let r = origin (suc i) ps t k in
        let n = r.near in
        let z : suc i + r.place ≡ i + suc r.place = omega arith in
        record { place = suc r.place; near = omega arith; joint = r.joint; «in» = r.in; is = r.is ∙ ap (λ n. transition_of_joint f n r.joint) z })
        (Memᴰ.append_cases (map (transition_of_joint f i) (joints_from A B p)) m)

    pub from_in : (i : ℕ) (ps : List Pair) (k : ℕ) {j : Joint} → k < length ps → j ∈ joints_from A B (get_or ps k start_pair) → transition_of_joint f (i + k) j ∈ transitions_from f A B i ps
    unfolding transitions_from
    from_in i [] k h m = absurd (omega arith)
    from_in i (p ∷ ps) zero {j} h m =
        let z : i + 0 ≡ i = omega arith in
        rw z (Memᴰ.append_left (transitions_from f A B (suc i) ps) (map_in (transition_of_joint f i) m))
    from_in i (p ∷ ps) (suc k) {j} h m =
        let z : i + suc k ≡ suc i + k = omega arith in
        rw z (Memᴰ.append_right (map (transition_of_joint f i) (joints_from A B p)) (from_in (suc i) ps k (omega arith) m))
