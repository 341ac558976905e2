-- The records before `i` are stored.
use Rattle.limits.proofs.Sheets.{Put}
use Rattle.limits.proofs.put_records.Given as goal

abbrev pub invariant-loop-i : goal.invariant-loop-i
invariant-loop-i l = Put l.initial.sheet l.initial.end l.m l.i l.sheet l.end
