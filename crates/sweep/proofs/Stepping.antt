-- What the live targets lead to is the step.
use Prim.Native.Nat.{ℕ, ◌≤◌, ◌<◌}
use mathlib.Core.Bool.{true, false, ◌&&◌, false≢true}
use mathlib.Core.List.{List, []}
use mathlib.Core.Logic.{⊎_elim}
use mathlib.Core.Path.{◌≡◌, refl, sym, ◌∙◌, ap}
use native.Mathlib.Omega.{arith}
use borrow.Author.Tests.{eq-eqb, eqb-true, ltb-true, ltb-false}
use lib.Dec.{ltb}
use lib.ListN.{get_or}
use Rattle.lists.specs.Lists.{◌∈◌, any}
use Rattle.lists.proofs.Lists.{any_in, any_out, filter_out}
use Rattle.lists.proofs.Tests.{test, true_same, and_both, and_parts}
use Rattle.automata.specs.Automaton.{Transition, Automaton, InBounds, holds}
use Rattle.sets.specs.Sets.{Set, has}
use Rattle.sets.specs.inner.BitSet.{set_at}
use Rattle.sets.proofs.Sets.{has_nil, pick_ext, wide}
use Rattle.sets.proofs.BitSet.{at_canon}
use Rattle.words.specs.Simulation.{closure, outgoing, step}
use Rattle.words.proofs.Closures.{closure_sound, run_bound}
use Rattle.sweep.specs.inner.Tree.{Tree, leaf}
use Rattle.sweep.specs.inner.Sweep.{Passes, Ahead}
use Rattle.sweep.proofs.Sweep.{passes_reach, passes_none}
use Rattle.sweep.proofs.Trees.{root_in, root_out}

module _ (A : Automaton) (ok : InBounds A) (few : A.size ≤ 256) (S : Set) {U W Q R : List Transition} {a : ℕ} {r : List ℕ} {C : ℕ → Set} (t : List ℕ) (w : Tree t)
    (rows : (q : ℕ) → q < A.size → C q ≡ closure A q) (p : Passes (outgoing A S) S U W Q R a r C (leaf t)) (far : Ahead 0 S Q a) (ahead : Ahead 1 S R a) where
  target_in : (e : Transition) → e ∈ outgoing A S → e.to < A.size
  unfolding outgoing
  target_in e m = ok.tos e (filter_out _ e A.transitions m).0

  root_leads : (x : ℕ) → has x (set_at t 4) ≡ any (λ e. holds a e && has x (closure A e.to)) (outgoing A S)
  root_leads x =
      true_same _ _
      (λ h.
      let o = root_out t w x h in
      let q = o.0 in
      ⊎_elim
      (λ (z : ltb a (get_or r q 0) ≡ true).
      let y = any_out _ (outgoing A S) (sym (passes_reach p far ahead q) ∙ z) in
      let e = y.0 in
      let d = and_parts (holds a e) _ y.2 in
      let f : e.to ≡ q = eqb-true _ _ d.1 in
      let l : leaf t q ≡ closure A e.to = p.live q o.1 (ltb-true _ _ z) ∙ ap C (sym f) ∙ rows e.to (target_in e y.1) in
      any_in _ y.1 (and_both _ _ d.0 (sym (ap (has x) l) ∙ o.2)))
      (λ (z : ltb a (get_or r q 0) ≡ false).
      let n : leaf t q ≡ [] = passes_none p far ahead q o.1 (ltb-false _ _ z) in
      absurd (false≢true (sym (has_nil x) ∙ sym (ap (has x) n) ∙ o.2)))
      (test (ltb a (get_or r q 0))))
      (λ h.
      let y = any_out _ (outgoing A S) h in
      let e = y.0 in
      let d = and_parts (holds a e) _ y.2 in
      let m = target_in e y.1 in
      let l : ltb a (get_or r e.to 0) ≡ true = passes_reach p far ahead e.to ∙ any_in _ y.1 (and_both _ _ d.0 (eq-eqb e.to e.to refl)) in
      root_in t w x e.to (omega arith) (ap (has x) (p.live e.to (omega arith) (ltb-true _ _ l) ∙ rows e.to m) ∙ d.1))

  pub root_step : set_at t 4 ≡ step A S a
  unfolding step
  root_step =
      sym (at_canon t 4)
      ∙ pick_ext 0 256 _ _ (λ x g. root_leads x)
      ∙ wide 0 A.size 256 _ few
      (λ x g.
      ⊎_elim
      (λ (h : any (λ e. holds a e && has x (closure A e.to)) (outgoing A S) ≡ true).
      let y = any_out _ (outgoing A S) h in
      let e = y.0 in
      let m = target_in e y.1 in
      let b = run_bound A ok m (closure_sound A ok e.to x m (and_parts (holds a e) _ y.2).1) in
      absurd (omega arith))
      (λ h. h)
      (test (any (λ e. holds a e && has x (closure A e.to)) (outgoing A S))))
