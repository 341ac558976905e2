-- For inner contracts. The records of the transitions as a sheet has them.
use Rattle.std.specs.Prelude.{ℕ, ◌≤◌, List, ◌≡◌, length}
use Rattle.automata.specs.Automaton.{Transition}
use Rattle.automata.specs.Records.{write_records}

-- the words rs are the transitions es, at most 2,048
pub record Recorded (rs : List ℕ) (es : List Transition) : Type 0 where
  pub words : rs ≡ write_records es
  pub few : length rs ≤ 10240
