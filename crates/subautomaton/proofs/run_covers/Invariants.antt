-- The records from the index on are left, in order.
use Rattle.std.proofs.Common.{◌≡◌, drop}
use Rattle.lists.specs.Lists.{any}
use Rattle.automata.specs.Records.{read_records}
use Rattle.automata.specs.inner.Chunks.{records_of}
use Rattle.automata.specs.inner.Records.{record_at}
use Rattle.subautomaton.specs.inner.Tables.{fits, Ordered}
use Rattle.subautomaton.proofs.run_covers.Given as goal

abbrev pub invariant-loop-e : goal.invariant-loop-e
invariant-loop-e l = record {
  ordered : Ordered (records_of (drop l.e-index l.records));
  left : any (fits l.cb l.to (record_at l.d 0)) (read_records l.run) ≡ any (fits l.cb l.to (record_at l.d 0)) (records_of (drop l.e-index l.records));
}
