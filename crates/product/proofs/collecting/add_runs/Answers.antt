-- Each record of the first run gives its transitions with those of the second that do not end before it starts.
use Rattle.std.proofs.Common.{arith}
use Rattle.automata.proofs.Chunks.{records_are}
use Rattle.output.proofs.Collecting.{rest_begin}
use Rattle.product.proofs.Adding.{runs_laws, runs_spent, runs_over, runs_next}
use Rattle.product.proofs.Records.{left_to, part_to}
use Rattle.product.proofs.collecting.add_runs.Goals as goal

pub loop-d-init : goal.loop-d-init
loop-d-init c =
    rw (records_are _ _ c.as_chunks.ensures.front) (record { inside = omega arith; first = c.requires.0; second = c.requires.1; left = rest_begin _ _ _ _ c.requires.4 })

pub returns-then-second-from : goal.returns-then-second-from
returns-then-second-from c =
    let i = c.loop-d.invariant in
    runs_spent _ _ _ _ _ c.args.second.now c.loop-d.from c.as_chunks.result.0.now c.loop-d.d-index _ i.left _ i.first c.loop-d-test.true _ c.pass_ended-from.ensures.1
    c.if-second-from.true

pub add_run-k-requires : goal.add_run-k-requires
add_run-k-requires c =
    let i = c.loop-d.invariant in
    let p = c.pass_ended-from.ensures in
    (search runs_laws, search runs_laws, part_to 256 c.args.second.now c.loop-d.from _ _ p.0 i.second p.1, search runs_laws, search runs_laws, i.left.room)

pub returns-then-buf-k : goal.returns-then-buf-k
returns-then-buf-k c =
    let i = c.loop-d.invariant in
    runs_over _ _ _ _ _ c.args.second.now c.loop-d.from c.as_chunks.result.0.now c.loop-d.d-index _ i.left _ i.first c.loop-d-test.true _ c.pass_ended-from.ensures.1
    _ _ _ c.add_run-k.ensures c.if-buf-k.true

pub loop-d-preserved : goal.loop-d-preserved
loop-d-preserved c =
    let i = c.loop-d.invariant in
    let p = c.pass_ended-from.ensures in
    record {
      inside = p.0;
      first = search runs_laws;
      second = left_to 256 c.args.second.now c.loop-d.from _ _ p.0 i.second p.1;
      left =
          runs_next _ _ _ _ _ c.args.second.now c.loop-d.from c.as_chunks.result.0.now c.loop-d.d-index _ i.left _ i.first c.loop-d-test.true _ p.1
          _ _ _ c.add_run-k.ensures c.if-buf-k.false;
    }

pub returns : goal.returns
returns c = search runs_laws
