-- Automata without epsilons in which every symbol from lower to upper has exactly one transition in every state.
use Rattle.std.specs.Prelude.{ℕ, ◌≤◌, ◌<◌, [], ◌∷◌, ◌≡◌}
use Rattle.lists.specs.Lists.{◌∈◌, filter}
use Rattle.automata.specs.Automaton.{Transition, Automaton, EpsilonFree, carries}

pub record Deterministic (lower upper : ℕ) (A : Automaton) : Type 0 where
  pub ranges : EpsilonFree A
  pub one : (q x : ℕ) → q < A.size → lower ≤ x → x ≤ upper → (d : Transition) × (filter (carries q x) A.transitions ≡ d ∷ [])

-- no transition holds a symbol below lower or above upper
pub record Between (lower upper : ℕ) (A : Automaton) : Type 0 where
  pub above : (e : Transition) → e ∈ A.transitions → lower ≤ e.first
  pub below : (e : Transition) → e ∈ A.transitions → e.last ≤ upper
