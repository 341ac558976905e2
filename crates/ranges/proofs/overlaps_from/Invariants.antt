use Rattle.std.proofs.Common.{◌≡◌, drop}
use Rattle.automata.specs.Automaton.{ranges_of}
use Rattle.automata.specs.inner.Chunks.{records_of}
use Rattle.ranges.specs.Span.{overlaps_from}
use Rattle.ranges.proofs.overlaps_from.Given as goal

abbrev pub invariant-loop-r : goal.invariant-loop-r
invariant-loop-r l = overlaps_from l.end (ranges_of (records_of l.records)) ≡ overlaps_from l.largest (ranges_of (records_of (drop l.r-index l.records)))
