-- A step from a set: the ranges that leave the set decide it, and it is empty just where none of them holds the symbol.
use Rattle.std.proofs.Common.{◌≡◌, ℕ, true, false, ◌&&◌, eqb, leb, List, [], ◌∷◌, ◌++◌, sym, refl, ◌∙◌, eq-eqb, eqb-true, leb-true}
use mathlib.Core.Bool.{false≢true}
use Rattle.lists.specs.Lists.{◌∈◌, any}
use Rattle.lists.proofs.Lists.{any_in, any_out, any_ext, filter_out}
use Rattle.lists.proofs.Tests.{true_same, and_both, and_parts}
use Rattle.automata.specs.Automaton.{Transition, Automaton, stay, InBounds, holds}
use Rattle.sets.specs.Sets.{Set, has, pick}
use Rattle.sets.proofs.Sets.{mem_has, has_mem, has_nil, no_member, pick_ext, pick_out, picked}
use Rattle.words.specs.Simulation.{closure, outgoing, step, simulate}
use Rattle.words.proofs.Simulation.{Stepped, step_in}
use Rattle.ranges.specs.Span.{Span}
use Rattle.determinize.specs.Partition.{part_of}

module _ (A : Automaton) where
  -- symbols that the ranges don't tell apart lead to the same set
  pub step_alike : (S : Set) (x a : ℕ) → ((e : Transition) → e ∈ outgoing A S → holds x e ≡ holds a e) → step A S x ≡ step A S a
  unfolding step
  step_alike S x a h = pick_ext 0 A.size _ _ (λ q l. any_ext _ _ (outgoing A S) (λ e m. rw (h e m)))

  -- a symbol that no range holds leads to nothing
  pub step_free : (S : Set) (a : ℕ) → any (holds a) (outgoing A S) ≡ false → step A S a ≡ []
  unfolding step
  step_free S a f =
      no_member (step A S a)
      (λ q h. let r = any_out _ (outgoing A S) (pick_out 0 A.size _ q h).2 in false≢true (sym f ∙ any_in (holds a) r.1 (and_parts (holds a r.0) _ r.2).0))

  pub simulate_end : (S : Set) (w : List ℕ) (a : ℕ) → simulate A S (w ++ a ∷ []) ≡ step A (simulate A S w) a
  unfolding simulate
  simulate_end S [] a = refl
  simulate_end S (b ∷ w) a = simulate_end (step A S b) w a

module _ (A : Automaton) (ok : InBounds A) where
  -- a symbol that some range holds leads to some state
  pub step_held : (S : Set) (a : ℕ) → any (holds a) (outgoing A S) ≡ true → step A S a ≡ [] → ⊥
  unfolding outgoing holds
  step_held S a h z =
      let r = any_out (holds a) (outgoing A S) h in
      let d = r.0 in
      let k = filter_out _ d A.transitions r.1 in
      let c = and_parts (eqb d.kind 1) _ k.1 in
      let i = and_parts (leb d.first a) _ r.2 in
      let s : Stepped A ok S a d.to = record { edge = d; «in» = k.0; is_range = eqb-true _ _ c.0; from_in = c.1; low = leb-true _ _ i.0; high = leb-true _ _ i.1; then = stay } in
      false≢true (sym (has_nil d.to) ∙ (rw z at (step_in A ok S a d.to s)))

  -- a part leads to the union of the closures of its targets
  pub part_step : (S : Set) (s : Span)
      → step A S s.first ≡ pick A.size (λ q. any (λ t. has q (closure A t)) (part_of A.size (outgoing A S) s).targets)
  unfolding step part_of outgoing
  part_step S s =
      pick_ext 0 A.size _ _
      (λ q l.
      true_same _ _
      (λ h.
      let r = any_out _ (outgoing A S) h in
      let e = r.0 in
      let c = and_parts (holds s.first e) _ r.2 in
      let k = (filter_out _ e A.transitions r.1).0 in
      any_in (λ t. has q (closure A t))
      (has_mem e.to _
      (picked A.size _ e.to (ok.tos e k)
      (any_in (λ d. holds s.first d && eqb d.to e.to) r.1 (and_both _ _ c.0 (eq-eqb e.to e.to refl)))))
      c.1)
      (λ h.
      let r = any_out _ (part_of A.size (outgoing A S) s).targets h in
      let t = r.0 in
      let v = any_out _ (outgoing A S) (pick_out 0 A.size _ t (mem_has r.1)).2 in
      let e = v.0 in
      let c = and_parts (holds s.first e) _ v.2 in
      any_in _ v.1 (and_both _ _ c.0 (rw (sym (eqb-true e.to t c.1)) at r.2))))
