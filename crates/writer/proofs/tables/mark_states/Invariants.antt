-- The records from the index on are left.
use Rattle.writer.proofs.Marks.{MarksLeft}
use Rattle.writer.proofs.tables.mark_states.Given as goal

abbrev pub invariant-loop-r : goal.invariant-loop-r
invariant-loop-r l = MarksLeft l.s l.records l.marks l.r-index
