-- What the records from the index on give, beside what is gathered and the cut found so far, is what all give.
use Rattle.std.proofs.Common.{◌≡◌, drop}
use Rattle.automata.specs.Automaton.{ranges_of}
use Rattle.automata.specs.Records.{read_records}
use Rattle.automata.specs.inner.Chunks.{records_of}
use Rattle.ranges.specs.Cuts.{next_cut}
use Rattle.ranges.specs.Missing.{SortedRanges}
use Rattle.ranges.proofs.Runs.{ranges_in}
use Rattle.words.specs.inner.Gather.{gathered}
use Rattle.words.proofs.follow.Given as goal

abbrev pub invariant-loop-r : goal.invariant-loop-r
invariant-loop-r l = record {
  sorted : SortedRanges (ranges_in (drop l.r-index l.records));
  reached : gathered l.next l.closures l.symbol (records_of (drop l.r-index l.records)) ≡ gathered l.initial.next l.closures l.symbol (read_records l.run);
  cut : next_cut l.symbol l.found (ranges_in (drop l.r-index l.records)) ≡ next_cut l.symbol l.top (ranges_of (read_records l.run));
}
