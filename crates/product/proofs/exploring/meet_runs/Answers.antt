-- Each record of the first run meets those of the second that do not end before it starts.
use Rattle.std.proofs.Common.{refl, arith}
use Rattle.automata.proofs.Chunks.{records_are}
use Rattle.product.proofs.Meeting.{runs_laws, runs_spent, runs_next}
use Rattle.product.proofs.Records.{left_to, part_to}
use Rattle.product.proofs.exploring.meet_runs.Goals as goal

pub loop-d-init : goal.loop-d-init
loop-d-init c = rw (records_are _ _ c.as_chunks.ensures.front) (record { inside = omega arith; queued = c.requires.0; first = c.requires.1; second = c.requires.2; met = refl })

pub returns-then-m-gt256 : goal.returns-then-m-gt256
returns-then-m-gt256 c = search runs_laws

pub returns-then-second-from : goal.returns-then-second-from
returns-then-second-from c =
    let i = c.loop-d.invariant in
    runs_spent _ _ _ _ c.args.second.now _ _ _ c.loop-d.from c.as_chunks.result.0.now c.loop-d.d-index i.queued i.met _ i.first c.loop-d-test.true _ c.pass_ended-from.ensures.1
    c.if-second-from.true

pub meet_run-m-requires : goal.meet_run-m-requires
meet_run-m-requires c =
    let i = c.loop-d.invariant in
    let p = c.pass_ended-from.ensures in
    (i.queued, search runs_laws, search runs_laws, part_to 256 c.args.second.now c.loop-d.from _ _ p.0 i.second p.1)

pub loop-d-preserved : goal.loop-d-preserved
loop-d-preserved c =
    let i = c.loop-d.invariant in
    let p = c.pass_ended-from.ensures in
    record {
      inside = p.0;
      queued = c.meet_run-m.ensures.queued;
      first = search runs_laws;
      second = left_to 256 c.args.second.now c.loop-d.from _ _ p.0 i.second p.1;
      met =
          runs_next _ _ _ _ c.args.second.now _ _ _ c.loop-d.from c.as_chunks.result.0.now c.loop-d.d-index i.queued i.met _ i.first c.loop-d-test.true _ p.1
          _ _ _ c.meet_run-m.ensures;
    }

pub returns : goal.returns
returns c = search runs_laws
