-- The records of the first run from the index on are left, with those of the second from `from` on.
use Rattle.std.proofs.Common.{◌/◌, ◌≤◌, ◌++◌, length, drop}
use Rattle.automata.specs.Records.{read_records}
use Rattle.automata.specs.inner.Chunks.{records_of}
use Rattle.output.specs.inner.Ordered.{records_in}
use Rattle.output.specs.inner.Gathering.{Rest}
use Rattle.product.specs.inner.Tables.{table_of, RunTo, links}
use Rattle.product.proofs.collecting.add_runs.Given as goal

abbrev pub invariant-loop-d : goal.invariant-loop-d
invariant-loop-d l = record {
  inside : l.from ≤ length l.second;
  first : RunTo (length l.t / 256) (records_of (drop l.d-index l.records));
  second : RunTo 256 (read_records (drop l.from l.second));
  left : Rest l.buf l.k.sorted l.k.end (links (table_of l.queue l.n) l.i (records_of (drop l.d-index l.records)) (read_records (drop l.from l.second)))
      (records_in l.initial.buf 0 l.initial.k.end ++ links (table_of l.queue l.n) l.i (read_records l.first) (read_records l.second));
}
