use Rattle.sweep.proofs.Putting.{puts_laws}
use Rattle.sweep.proofs.ordering.put_events.Goals as goal

pub loop-number-init : goal.loop-number-init
loop-number-init c = search puts_laws

pub put_event-end-requires : goal.put_event-end-requires
put_event-end-requires c = search puts_laws

pub loop-number-preserved : goal.loop-number-preserved
loop-number-preserved c = search puts_laws

pub returns : goal.returns
returns c = search puts_laws
