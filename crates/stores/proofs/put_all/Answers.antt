-- One element more is stored.
use Rattle.std.proofs.Common.{arith}
use Rattle.stores.proofs.Written.{stored_next, stored_all}
use Rattle.stores.proofs.put_all.Goals as goal

pub loop-x-preserved : goal.loop-x-preserved
loop-x-preserved g c = (omega (arith, c.loop-x.invariant.0), stored_next _ _ _ _ _ _ c.loop-x.invariant.1 c.loop-x-test.true _ c.x-item.is)

pub returns : goal.returns
returns g c = stored_all _ _ _ _ _ _ c.loop-x.invariant.1 (omega (arith, c.loop-x-test.false)) (c.loop-x.invariant.0) (omega (arith, c.loop-x.auto.x-index-end))
