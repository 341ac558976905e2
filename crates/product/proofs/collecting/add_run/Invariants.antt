-- The records of the run from the index on are left.
use Rattle.std.proofs.Common.{[], ◌∷◌, ◌++◌, drop}
use Rattle.automata.specs.Records.{read_records}
use Rattle.automata.specs.inner.Chunks.{records_of}
use Rattle.automata.specs.inner.Records.{record_at}
use Rattle.output.specs.inner.Ordered.{records_in}
use Rattle.output.specs.inner.Gathering.{Rest}
use Rattle.product.specs.inner.Tables.{table_of, RunTo, links}
use Rattle.product.proofs.collecting.add_run.Given as goal

abbrev pub invariant-loop-e : goal.invariant-loop-e
invariant-loop-e l = record {
  run : RunTo 256 (records_of (drop l.e-index l.records));
  left : Rest l.buf l.k.sorted l.k.end (links (table_of l.queue l.n) l.i (record_at l.d 0 ∷ []) (records_of (drop l.e-index l.records)))
      (records_in l.initial.buf 0 l.initial.k.end ++ links (table_of l.queue l.n) l.i (record_at l.d 0 ∷ []) (read_records l.run));
}
