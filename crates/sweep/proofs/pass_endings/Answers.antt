use Rattle.sweep.proofs.Passing.{end_laws, end_noted, end_other}
use Rattle.sweep.proofs.pass_endings.Goals as goal
use Rattle.sweep.proofs.pass_endings.Goals.{then-is_in+else-symbol-range, else-is_in}

pub is_in-requires : goal.is_in-requires
is_in-requires c = search end_laws

pub returns-then-symbol-range-clause-stopped : goal.returns-then-symbol-range-clause-stopped
returns-then-symbol-range-clause-stopped c = search end_laws

pub close-requires : goal.close-requires
close-requires c = search end_laws

pub loop-at-preserved : goal.loop-at-preserved
loop-at-preserved c =
    elim c.if-is_in.branch [
      | then-is_in+else-symbol-range w ↦ rw w.tree-is (search end_noted)
      | else-is_in w ↦ rw w.tree-is (search end_other)
    ]
