-- The records of the first run from the index on are left to be met, with those of the second from `from` on.
use Rattle.std.proofs.Common.{◌≡◌, ◌/◌, ◌≤◌, length, drop}
use Rattle.automata.specs.Records.{read_records}
use Rattle.automata.specs.inner.Chunks.{records_of}
use Rattle.product.specs.inner.Tables.{Queued, RunTo, joint_targets}
use Rattle.product.proofs.Queueing.{met_with}
use Rattle.product.proofs.exploring.meet_runs.Given as goal

abbrev pub invariant-loop-d : goal.invariant-loop-d
invariant-loop-d l = record {
  inside : l.from ≤ length l.second;
  queued : Queued l.queue l.t l.m;
  first : RunTo (length l.initial.t / 256) (records_of (drop l.d-index l.records));
  second : RunTo 256 (read_records (drop l.from l.second));
  met : met_with l.queue l.m (joint_targets (records_of (drop l.d-index l.records)) (read_records (drop l.from l.second)))
      ≡ met_with l.initial.queue l.n (joint_targets (read_records l.first) (read_records l.second));
}
