use Rattle.std.proofs.Common.{◌≡◌, drop}
use Rattle.automata.specs.Automaton.{ranges_of}
use Rattle.automata.specs.Records.{read_records}
use Rattle.automata.specs.inner.Chunks.{records_of}
use Rattle.ranges.specs.Span.{overlapping}
use Rattle.ranges.proofs.has_overlapping_ranges.Given as goal

abbrev pub invariant-loop-k : goal.invariant-loop-k
invariant-loop-k l = overlapping (ranges_of (read_records l.run)) ≡ overlapping (ranges_of (records_of (drop l.k l.records)))
