use Rattle.sweep.proofs.Putting.{event_laws}
use Rattle.sweep.proofs.ordering.put_event.Goals as goal
use Rattle.sweep.proofs.ordering.put_event.Goals.{in-Opening, in-Ending}

pub returns-then-not-is_range : goal.returns-then-not-is_range
returns-then-not-is_range c = search event_laws

pub put_record-requires : goal.put_record-requires
put_record-requires c = search event_laws

pub returns : goal.returns
returns c = elim c.match-kind.branch [ in-Opening w ↦ search event_laws | in-Ending w ↦ search event_laws ]
