-- The records from the index on decide.
use Rattle.std.proofs.Common.{◌≡◌, drop}
use Rattle.automata.specs.Automaton.{has_epsilon}
use Rattle.automata.specs.Records.{read_records}
use Rattle.automata.specs.inner.Chunks.{records_of}
use Rattle.sheets.proofs.reading.has_epsilon.Given as goal

abbrev pub invariant-loop-r : goal.invariant-loop-r
invariant-loop-r l = has_epsilon (read_records l.fn.records) ≡ has_epsilon (records_of (drop l.r-index l.records))
