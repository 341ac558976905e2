-- The records before the index are counted.
use Rattle.sheets.specs.inner.Runs.{RunEnds}
use Rattle.sheets.proofs.reading.mark_ends.Given as goal

abbrev pub invariant-loop-k : goal.invariant-loop-k
invariant-loop-k l = RunEnds l.t l.ends l.k
