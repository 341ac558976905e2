-- The records from `i` on and the holes from the index on are left to write.
use Rattle.std.proofs.Common.{◌≤◌, length, drop}
use Rattle.automata.specs.Records.{read_records, write_records}
use Rattle.stores.proofs.Left.{Left}
use Rattle.totality.specs.inner.Merging.{Mergeable, merged, WholeRecords}
use Rattle.totality.proofs.Merging.{spans_of, merging}
use Rattle.totality.proofs.total.put_merged.Given as goal

abbrev pub invariant-loop-hole : goal.invariant-loop-hole
invariant-loop-hole l = record {
  within : l.i ≤ length l.run;
  whole : WholeRecords (drop l.i l.run);
  mergeable : Mergeable l.sink l.q (read_records (drop l.i l.run)) (spans_of (drop l.hole-index l.spans));
  left : Left l.fn.out l.at (write_records (merged l.sink l.q l.run l.holes)) l.out l.end (write_records (merging l.sink l.q (drop l.i l.run) (spans_of (drop l.hole-index l.spans))));
}
