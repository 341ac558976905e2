-- The holes of a state: the symbols that none of its ranges holds.
use Prim.Native.Nat.{ℕ, ◌≤◌}
use mathlib.Core.Bool.{true, false}
use mathlib.Core.Logic.{◌⊎◌, inl, inr, ⊎_elim}
use mathlib.Core.Path.{◌≡◌}
use Rattle.lists.specs.Lists.{◌∈◌, any}
use Rattle.lists.proofs.Every.{any_none}
use Rattle.lists.proofs.Lists.{any_out}
use Rattle.lists.proofs.Tests.{test}
use Rattle.automata.specs.Automaton.{Transition, Automaton, holds, leaving, ranges_of}
use Rattle.automata.specs.WellFormed.{WellFormed}
use Rattle.automata.proofs.Leaving.{range_leaves}
use Rattle.ranges.specs.Missing.{Holes, InSomeSpan}
use Rattle.ranges.proofs.Held.{holds_ends}
use Rattle.ranges.proofs.Missing.{missing_holes}
use Rattle.ranges.proofs.Sorting.{leaving_sorted}
use Rattle.nondeterminism.specs.Nondeterminism.{holes_of}

module _ (A : Automaton) (v : WellFormed A) (q lower upper : ℕ) where
  -- they are the maximal runs of symbols that none of its ranges holds
  pub state_holes : Holes lower upper (ranges_of (leaving A q)) (holes_of lower upper (leaving A q))
  unfolding holes_of
  state_holes = missing_holes lower upper (ranges_of (leaving A q)) (leaving_sorted A q v).full

  -- a symbol has a transition in the state, or lies in a hole
  pub held_or_free : (x : ℕ) → lower ≤ x → x ≤ upper
      → ((e : Transition) × e ∈ A.transitions × (e.from ≡ q) × (e.kind ≡ 1) × (e.first ≤ x) × (x ≤ e.last)) ⊎ InSomeSpan x (holes_of lower upper (leaving A q))
  held_or_free x l u =
      ⊎_elim
      (λ (t : any (holds x) (ranges_of (leaving A q)) ≡ true).
      let (e, m, k) = any_out (holds x) (ranges_of (leaving A q)) t in
      let (i, c, j) = range_leaves A q e m in
      let b = holds_ends x e k in
      inl (e, i, c, j, b.0, b.1))
      (λ (t : any (holds x) (ranges_of (leaving A q)) ≡ false). inr ((state_holes.exact x).1 (l, u, any_none (holds x) (ranges_of (leaving A q)) t)))
      (test (any (holds x) (ranges_of (leaving A q))))
