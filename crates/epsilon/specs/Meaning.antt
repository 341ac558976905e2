-- What the transitions of an eliminated automaton are, by runs.
use Rattle.std.specs.Prelude.{[], ◌≡◌}
use Rattle.lists.specs.Lists.{◌∈◌}
use Rattle.automata.specs.Automaton.{Transition, Automaton, Run}
use Rattle.epsilon.specs.Eliminate.{leaving_from}

-- e is a range that leaves a state which epsilons reach from e's, but for the state that it leaves
pub record ClosureRange (A : Automaton) (e : Transition) : Type 0 where
  pub source : Transition
  pub «in» : source ∈ A.transitions
  pub is_range : source.kind ≡ 1
  pub reached : Run A e.from [] source.from
  pub is : e ≡ leaving_from e.from source
