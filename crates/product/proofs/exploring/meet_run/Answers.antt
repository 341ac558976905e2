-- Each record of the run is met; none meets d from the first on that starts behind it.
use Rattle.std.proofs.Common.{refl}
use Rattle.automata.proofs.Chunks.{records_are}
use Rattle.product.proofs.Meeting.{run_laws, run_next}
use Rattle.product.proofs.exploring.meet_run.Goals as goal

pub loop-e-init : goal.loop-e-init
loop-e-init c = rw (records_are _ _ c.as_chunks.ensures.front) (record { queued = c.requires.0; run = c.requires.3; met = refl })

pub returns-then-d-e : goal.returns-then-d-e
returns-then-d-e c = search run_laws

pub meet_record-m-requires : goal.meet_record-m-requires
meet_record-m-requires c = (c.loop-e.invariant.queued, search run_laws, search run_laws, search run_laws, search run_laws)

pub loop-e-preserved : goal.loop-e-preserved
loop-e-preserved c =
    let i = c.loop-e.invariant in
    record {
      queued = c.meet_record-m.ensures.queued;
      run = search run_laws;
      met = run_next c.args.d.now _ _ _ _ _ _ c.as_chunks.result.0.now c.loop-e.e-index i.queued i.met c.loop-e-test.true _ _ _ c.meet_record-m.ensures;
    }

pub returns : goal.returns
returns c = search run_laws
