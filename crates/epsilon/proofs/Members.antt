-- The transitions of an eliminated automaton: each is a range of the closure of the state that it leaves.
use Prim.Native.Nat.{ℕ, ◌<◌}
use mathlib.Core.Bool.{true}
use mathlib.Core.Path.{◌≡◌, refl, sym, ◌∙◌, ap, subst}
use native.Mathlib.Omega.{arith}
use borrow.Author.Tests.{eq-eqb, eqb-true}
use Rattle.lists.specs.Lists.{◌∈◌}
use Rattle.lists.proofs.Lists.{filter_in, filter_out}
use Rattle.lists.proofs.Every.{flat_in, flat_out}
use Rattle.lists.proofs.Members.{map_in, map_out}
use Rattle.automata.specs.Automaton.{Transition, Automaton, leaving, ranges_of}
use Rattle.automata.proofs.States.{states_in, states_out}
use Rattle.automata.proofs.Ordered.{in_order_in, in_order_out}
use Rattle.sets.specs.Sets.{has}
use Rattle.sets.proofs.Sets.{mem_has, has_mem}
use Rattle.words.specs.Simulation.{closure}
use Rattle.epsilon.specs.Eliminate.{leaving_from, moved_to, ranges_from, closure_ranges, eliminated}

-- what a transition of the eliminated automaton comes from: a range d that leaves a state of the closure of p
pub record Comes (A : Automaton) (p : ℕ) (e : Transition) : Type 0 where
  pub source : Transition
  pub «in» : source ∈ A.transitions
  pub is_range : source.kind ≡ 1
  pub closed : has source.from (closure A p) ≡ true
  pub is : e ≡ leaving_from p source

moved_out : (A : Automaton) (p q : ℕ) (e : Transition) → has q (closure A p) ≡ true → e ∈ moved_to p (leaving A q) → Comes A p e
unfolding moved_to leaving ranges_of
moved_out A p q e h m =
    let r = map_out (leaving_from p) _ e m in
    let k = filter_out _ r.0 (leaving A q) r.1 in
    let l = filter_out _ r.0 A.transitions k.0 in
    record { source = r.0; «in» = l.0; is_range = eqb-true _ _ k.1; closed = ap (λ x. has x (closure A p)) (eqb-true r.0.from q l.1) ∙ h; is = r.2 }

module _ (A : Automaton) where
  pub eliminated_out : (e : Transition) → e ∈ (eliminated A).transitions → (e.from < A.size) × Comes A e.from e
  unfolding eliminated closure_ranges ranges_from
  eliminated_out e m =
      let r = flat_out (closure_ranges A) e _ (in_order_out e _ m) in
      let t = states_out A.size r.0 r.1 in
      let s = flat_out _ e (closure A r.0) r.2 in
      let c = moved_out A r.0 s.0 e (mem_has s.1) s.2 in
      let q : e.from ≡ r.0 = ap (λ (d : Transition). d.from) c.is in
      (omega (arith, t), subst (λ (p : ℕ). Comes A p e) (sym q) c)

  pub eliminated_in : (p : ℕ) (d : Transition) → p < A.size → d ∈ A.transitions → d.kind ≡ 1 → has d.from (closure A p) ≡ true → leaving_from p d ∈ (eliminated A).transitions
  unfolding eliminated closure_ranges ranges_from moved_to leaving ranges_of
  eliminated_in p d l m k h =
      in_order_in
      (flat_in (closure_ranges A) (states_in A.size p l)
      (flat_in _ (has_mem d.from (closure A p) h)
      (map_in (leaving_from p) (filter_in _ (filter_in _ m (eq-eqb d.from d.from refl)) (eq-eqb _ _ k)))))
