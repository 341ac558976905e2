-- The transitions of one state, in the order of a sheet, have sorted ranges.
use Prim.Native.Nat.{ℕ, ◌≤◌}
use mathlib.Core.Bool.{true}
use mathlib.Core.List.{List}
use mathlib.Core.Path.{◌≡◌, sym, ◌∙◌}
use native.Mathlib.Omega.{arith}
use borrow.Author.Tests.{eqb-true}
use lib.Dec.{eqb}
use Rattle.lists.specs.Lists.{◌∈◌, filter, Ascending}
use Rattle.lists.proofs.Lists.{filter_out}
use Rattle.lists.proofs.Members.{ascending_filter, ascending_by}
use Rattle.automata.specs.Automaton.{Transition, Automaton, leaving, ranges_of}
use Rattle.automata.specs.WellFormed.{Lex, Before, Sound, WellFormed}
use Rattle.ranges.specs.Missing.{SortedRanges}

rises : (d e : Transition) → d.from ≡ e.from → d.kind ≡ e.kind → Before d e → d.first ≤ e.first
rises d e f k (Lex.here h) = absurd (omega arith)
rises d e f k (Lex.later p (Lex.here h)) = absurd (omega arith)
rises d e f k (Lex.later p (Lex.later q (Lex.here h))) = omega arith
rises d e f k (Lex.later p (Lex.later q (Lex.later r h))) = omega arith

-- the ranges of one state are sorted, if its transitions ascend and are sound
pub sorted_ranges : (q : ℕ) (es : List Transition) → Ascending Before es → ((e : Transition) → e ∈ es → e.from ≡ q) → ((e : Transition) → e ∈ es → Sound e)
    → SortedRanges (ranges_of es)
unfolding ranges_of
sorted_ranges q es a f s =
    let out : (e : Transition) → e ∈ filter (λ e. eqb e.kind 1) es → e ∈ es × (eqb e.kind 1 ≡ true) = λ e m. filter_out (λ e. eqb e.kind 1) e es m in
    record {
      rises =
          ascending_by
          (λ d e m n. rises d e (f d (out d m).0 ∙ sym (f e (out e n).0)) (eqb-true _ _ (out d m).1 ∙ sym (eqb-true _ _ (out e n).1)))
          (ascending_filter (λ e. eqb e.kind 1) a);
      full = λ e m. (s e (out e m).0).full;
    }

-- so are the ranges of each state of a well-formed automaton
pub leaving_sorted : (A : Automaton) (q : ℕ) → WellFormed A → SortedRanges (ranges_of (leaving A q))
unfolding leaving
leaving_sorted A q w =
    let out : (e : Transition) → e ∈ leaving A q → e ∈ A.transitions × (eqb e.from q ≡ true) = λ e m. filter_out (λ e. eqb e.from q) e A.transitions m in
    sorted_ranges q (leaving A q) (ascending_filter (λ e. eqb e.from q) w.ascends) (λ e m. eqb-true _ _ (out e m).1) (λ e m. w.sound e (out e m).0)
