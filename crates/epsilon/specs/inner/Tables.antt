-- For inner contracts. What the code has in its local memory, and what its inner functions assume.
use Rattle.std.specs.Prelude.{ℕ, ◌*◌, ◌≤◌, List, ◌≡◌, length}
use Rattle.automata.specs.Records.{write_records}
use Rattle.automata.specs.WellFormed.{most_transitions}
use Rattle.sets.specs.inner.BitSet.{entries}
use Rattle.sheets.specs.inner.Accepted.{Accepted}
use Rattle.sheets.specs.Sheet.{state_count, read}
use Rattle.words.specs.Simulation.{closures}
use Rattle.epsilon.specs.Eliminate.{eliminated}
use Rattle.output.specs.Output.{labels_size, sheet_size}

-- the table c has the closures of the accepted sheet s
pub record ClosuresOf (s c : List ℕ) : Type 0 where
  pub accepted : Accepted s
  pub long : 4 * state_count s ≤ length c
  pub closed : entries c (state_count s) ≡ closures (read s)

-- the words are the transitions of the eliminated automaton, and are few enough
pub record TransitionsOf (s words : List ℕ) : Type 0 where
  pub few : length (eliminated (read s)).transitions ≤ most_transitions
  pub whole : words ≡ write_records (eliminated (read s)).transitions

-- the sheet is accepted, and the outputs have their fixed sizes
pub record EliminationInputs (s out names : List ℕ) : Type 0 where
  pub accepted : Accepted s
  pub words : sheet_size ≤ length out
  pub bytes : labels_size ≤ length names
