use Rattle.sweep.proofs.Putting.{take_laws}
use Rattle.sweep.proofs.ordering.put_numbers.Goals as goal

pub loop-r-init : goal.loop-r-init
loop-r-init c = search take_laws

pub put-end-requires : goal.put-end-requires
put-end-requires c = search take_laws

pub loop-r-preserved : goal.loop-r-preserved
loop-r-preserved c = search take_laws

pub returns : goal.returns
returns c = search take_laws
