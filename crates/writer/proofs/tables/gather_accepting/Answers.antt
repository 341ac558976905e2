-- By the laws of the states that are left.
use Rattle.writer.proofs.Gathering.{accepting_laws}
use Rattle.writer.proofs.tables.gather_accepting.Goals as goal

pub put_state-end-requires : goal.put_state-end-requires
put_state-end-requires c = search accepting_laws

pub loop-q-preserved : goal.loop-q-preserved
loop-q-preserved c = search accepting_laws

pub returns : goal.returns
returns c = search accepting_laws
