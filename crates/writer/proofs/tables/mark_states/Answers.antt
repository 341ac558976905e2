-- By the laws of the records that are left.
use Rattle.writer.proofs.Marks.{marks_laws, marks_begin}
use Rattle.writer.proofs.tables.mark_states.Goals as goal

pub loop-r-init : goal.loop-r-init
loop-r-init c = marks_begin _ _ c.requires.0 c.requires.1 _ c.as_chunks.ensures.front

pub bounds-marks-r : goal.bounds-marks-r
bounds-marks-r c = search marks_laws

pub bounds-marks-r-in-loop-r : goal.bounds-marks-r-in-loop-r
bounds-marks-r-in-loop-r c = search marks_laws

pub loop-r-preserved : goal.loop-r-preserved
loop-r-preserved c = search marks_laws

pub returns : goal.returns
returns c = search marks_laws
