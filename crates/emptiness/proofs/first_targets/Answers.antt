-- By the laws of the table.
use Rattle.emptiness.proofs.Targets.{target_laws, targets_next}
use Rattle.emptiness.proofs.first_targets.Goals as goal

pub loop-q-init : goal.loop-q-init
loop-q-init c = search target_laws

pub first_target-requires : goal.first_target-requires
first_target-requires c = search target_laws

pub loop-q-preserved : goal.loop-q-preserved
loop-q-preserved c = targets_next _ _ _ _ _ c.loop-q.invariant c.first_target.ensures
