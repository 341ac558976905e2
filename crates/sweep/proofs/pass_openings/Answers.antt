use Rattle.sweep.proofs.Passing.{open_laws, open_noted, open_other}
use Rattle.sweep.proofs.pass_openings.Goals as goal
use Rattle.sweep.proofs.pass_openings.Goals.{then-is_in+else-symbol-range, else-is_in}

pub is_in-requires : goal.is_in-requires
is_in-requires c = search open_laws

pub returns-then-symbol-range-clause-stopped : goal.returns-then-symbol-range-clause-stopped
returns-then-symbol-range-clause-stopped c = search open_laws

pub open-requires : goal.open-requires
open-requires c = search open_laws

pub loop-at-preserved : goal.loop-at-preserved
loop-at-preserved c =
    elim c.if-is_in.branch [
      | then-is_in+else-symbol-range w ↦ rw (w.reach-is, w.tree-is) (search open_noted)
      | else-is_in w ↦ rw (w.reach-is, w.tree-is) (search open_other)
    ]
