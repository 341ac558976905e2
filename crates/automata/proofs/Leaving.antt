-- Laws of the transitions that leave a state: they are those of the automaton that do, and those of kind 1 are its ranges.
use Prim.Native.Nat.{ℕ, ◌≤◌}
use mathlib.Core.Path.{◌≡◌, sym, ◌∙◌}
use native.Mathlib.Omega.{arith}
use borrow.Author.Tests.{eqb-true, eq-eqb}
use lib.Dec.{eqb}
use Rattle.lists.specs.Lists.{◌∈◌, Ascending}
use Rattle.lists.proofs.Lists.{filter_in, filter_out}
use Rattle.lists.proofs.Members.{ascending_by, ascending_filter}
use Rattle.automata.specs.Automaton.{Transition, Automaton, leaving, ranges_of}
use Rattle.automata.specs.WellFormed.{Lex, Before, Sound, WellFormed}

module _ (A : Automaton) (q : ℕ) where
  pub leaves : (e : Transition) → e ∈ leaving A q → e ∈ A.transitions × (e.from ≡ q)
  unfolding leaving
  leaves e m = let k = filter_out (λ e. eqb e.from q) e A.transitions m in (k.0, eqb-true _ _ k.1)

  pub leaving_in : (e : Transition) → e ∈ A.transitions → e.from ≡ q → e ∈ leaving A q
  unfolding leaving
  leaving_in e m c = filter_in (λ e. eqb e.from q) m (eq-eqb e.from q c)

  pub leaving_range : (e : Transition) → e ∈ leaving A q → e.kind ≡ 1 → e ∈ ranges_of (leaving A q)
  unfolding ranges_of
  leaving_range e m k = filter_in (λ e. eqb e.kind 1) m (eq-eqb e.kind 1 k)

  pub range_leaves : (e : Transition) → e ∈ ranges_of (leaving A q) → e ∈ A.transitions × (e.from ≡ q) × (e.kind ≡ 1)
  unfolding ranges_of
  range_leaves e m = let k = filter_out (λ e. eqb e.kind 1) e (leaving A q) m in let l = leaves e k.0 in (l.0, l.1, eqb-true _ _ k.1)

-- an epsilon, whose symbols are 0, stands before the ranges of its state
starts_below_lem : (d e : Transition) → d.from ≡ e.from → Sound d → Sound e → Before d e → d.first ≤ e.first
starts_below_lem d e f s u (Lex.here h) = absurd (omega arith)
starts_below_lem d e f s u (Lex.later p (Lex.here h)) = let z : d.kind ≡ 0 = omega (arith, u.known) in let b = s.blank z in omega (arith, b.0)
starts_below_lem d e f s u (Lex.later p (Lex.later q (Lex.here h))) = omega arith
starts_below_lem d e f s u (Lex.later p (Lex.later q (Lex.later r h))) = omega arith

-- the transitions that leave a state ascend in their first symbols
pub leaving_rises : (A : Automaton) (q : ℕ) → WellFormed A → Ascending (λ d e. d.first ≤ e.first) (leaving A q)
unfolding leaving
leaving_rises A q w =
    let out : (e : Transition) → e ∈ leaving A q → e ∈ A.transitions × (e.from ≡ q) = λ e m. leaves A q e m in
    ascending_by (λ d e m n. starts_below_lem d e ((out d m).1 ∙ sym (out e n).1) (w.sound d (out d m).0) (w.sound e (out e n).0))
    (ascending_filter (λ e. eqb e.from q) w.ascends)
