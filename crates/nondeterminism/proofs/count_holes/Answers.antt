-- By the laws of the loop over states.
use Rattle.nondeterminism.proofs.States.{count_laws}
use Rattle.nondeterminism.proofs.count_holes.Goals as goal

pub run-requires : goal.run-requires
run-requires c = search count_laws

pub missing_ranges-count-requires : goal.missing_ranges-count-requires
missing_ranges-count-requires c = search count_laws

pub overflow_add-count : goal.overflow_add-count
overflow_add-count c = search count_laws

pub loop-q-preserved : goal.loop-q-preserved
loop-q-preserved c = search count_laws

pub returns : goal.returns
returns c = search count_laws
