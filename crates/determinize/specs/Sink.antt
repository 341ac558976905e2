-- Sinks: states that no word leads out of.
use Rattle.std.specs.Prelude.{◌≡◌, ℕ, suc, [], ◌∷◌}
use Rattle.automata.specs.Automaton.{Automaton, leaving, accept_of}

-- the last state is a sink: all symbols from lower to upper lead from it to itself, and it rejects
pub record Sink (lower upper : ℕ) (D : Automaton) : Type 0 where
  pub state : ℕ
  pub last : D.size ≡ suc state
  pub loops : leaving D state ≡ record { from = state; kind = 1; first = lower; last = upper; to = state } ∷ []
  pub rejects : accept_of D state ≡ 0
