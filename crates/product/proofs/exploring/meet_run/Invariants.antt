-- The records of the run from the index on are left to be met.
use Rattle.std.proofs.Common.{◌≡◌, [], ◌∷◌, drop}
use Rattle.automata.specs.Records.{read_records}
use Rattle.automata.specs.inner.Chunks.{records_of}
use Rattle.automata.specs.inner.Records.{record_at}
use Rattle.product.specs.inner.Tables.{Queued, RunTo, joint_targets}
use Rattle.product.proofs.Queueing.{met_with}
use Rattle.product.proofs.exploring.meet_run.Given as goal

abbrev pub invariant-loop-e : goal.invariant-loop-e
invariant-loop-e l = record {
  queued : Queued l.queue l.t l.m;
  run : RunTo 256 (records_of (drop l.e-index l.records));
  met : met_with l.queue l.m (joint_targets (record_at l.d 0 ∷ []) (records_of (drop l.e-index l.records)))
      ≡ met_with l.initial.queue l.n (joint_targets (record_at l.d 0 ∷ []) (read_records l.run));
}
