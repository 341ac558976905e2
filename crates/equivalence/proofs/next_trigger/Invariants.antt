-- The records before `i` have the trigger of the record at `at`.
use Rattle.equivalence.proofs.Reading.{InRow}
use Rattle.equivalence.proofs.next_trigger.Given as goal

abbrev pub invariant-loop-i : goal.invariant-loop-i
invariant-loop-i l = InRow l.records l.at l.i
