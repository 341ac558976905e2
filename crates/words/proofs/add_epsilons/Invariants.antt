-- What the records from the index on still add gives what all add.
use Rattle.std.proofs.Common.{drop}
use Rattle.automata.specs.Records.{read_records}
use Rattle.automata.specs.inner.Chunks.{records_of}
use Rattle.words.specs.inner.Epsilons.{EpsilonsLeft}
use Rattle.words.proofs.add_epsilons.Given as goal

abbrev pub invariant-loop-r : goal.invariant-loop-r
invariant-loop-r l = EpsilonsLeft l.initial.rows (read_records l.fn.records) l.rows (records_of (drop l.r-index l.records))
