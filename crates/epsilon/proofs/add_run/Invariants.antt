-- What the records from the index on still add gives what all add.
use Rattle.std.proofs.Common.{◌++◌, drop}
use Rattle.automata.specs.Records.{read_records}
use Rattle.automata.specs.inner.Chunks.{records_of}
use Rattle.output.specs.inner.Gathering.{Rest}
use Rattle.output.specs.inner.Ordered.{records_in}
use Rattle.epsilon.specs.Eliminate.{moved_to}
use Rattle.epsilon.proofs.add_run.Given as goal

abbrev pub invariant-loop-r : goal.invariant-loop-r
invariant-loop-r l = Rest l.buf l.f.sorted l.f.end (moved_to l.p (records_of (drop l.r-index l.records))) (records_in l.fn.buf 0 l.fn.start.end ++ moved_to l.p (read_records l.run))
