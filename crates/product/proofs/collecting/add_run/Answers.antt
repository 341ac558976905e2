-- Each record of the run gives its transition; none meets d from the first on that starts behind it.
use Rattle.automata.proofs.Chunks.{records_are}
use Rattle.output.proofs.Collecting.{rest_begin}
use Rattle.product.proofs.Adding.{run_laws, run_over, run_next}
use Rattle.product.proofs.collecting.add_run.Goals as goal

pub loop-e-init : goal.loop-e-init
loop-e-init c = rw (records_are _ _ c.as_chunks.ensures.front) (record { run = c.requires.2; left = rest_begin _ _ _ _ c.requires.5 })

pub returns-then-d-e : goal.returns-then-d-e
returns-then-d-e c = search run_laws

pub add_joint-k-requires : goal.add_joint-k-requires
add_joint-k-requires c =
    (search run_laws, search run_laws, search run_laws, search run_laws, search run_laws, search run_laws, c.loop-e.invariant.left.room)

pub returns-then-buf-k : goal.returns-then-buf-k
returns-then-buf-k c =
    run_over _ _ _ _ _ c.args.d.now c.as_chunks.result.0.now c.loop-e.e-index _ c.loop-e.invariant.left c.loop-e-test.true _ _ _ c.add_joint-k.ensures c.if-buf-k.true

pub loop-e-preserved : goal.loop-e-preserved
loop-e-preserved c = record {
  run = search run_laws;
  left =
      run_next _ _ _ _ _ c.args.d.now c.as_chunks.result.0.now c.loop-e.e-index _ c.loop-e.invariant.left c.loop-e-test.true _ _ _ c.add_joint-k.ensures
      c.if-buf-k.false;
}

pub returns : goal.returns
returns c = search run_laws
