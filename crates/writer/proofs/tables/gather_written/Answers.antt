-- By the laws of the states that are left.
use Rattle.writer.proofs.Gathering.{written_laws}
use Rattle.writer.proofs.tables.gather_written.Goals as goal

pub bounds-marks-q : goal.bounds-marks-q
bounds-marks-q c = search written_laws

pub put_state-end-requires : goal.put_state-end-requires
put_state-end-requires c = search written_laws

pub loop-q-preserved : goal.loop-q-preserved
loop-q-preserved c = search written_laws

pub returns : goal.returns
returns c = search written_laws
