-- The first `i` parents are the indices.
use Rattle.dsu.proofs.Fresh.{Filled}
use Rattle.dsu.proofs.DSU.new.Given as goal

abbrev pub invariant-loop-i : goal.invariant-loop-i
invariant-loop-i l = Filled l.repr l.i
