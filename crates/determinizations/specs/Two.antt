-- Two automata side by side, over the same symbols.
use Rattle.std.specs.Prelude.{ℕ, ◌+◌, ◌≤◌}
use Rattle.automata.specs.Automaton.{Automaton}

-- two automata, and the least and the greatest symbol
pub record Two : Type 0 where
  pub one : Automaton
  pub two : Automaton
  pub lower : ℕ
  pub upper : ℕ

abbrev pub Symbol : Two → ℕ → Type 0
Symbol t x = (t.lower ≤ x) × (x ≤ t.upper)

-- the states of both are counted as different states
abbrev pub total_size : Two → ℕ
total_size t = t.one.size + t.two.size
