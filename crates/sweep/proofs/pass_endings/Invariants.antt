-- The endings before the index are passed.
use Rattle.sets.specs.inner.BitSet.{set_at}
use Rattle.sweep.specs.inner.Passing.{Passing}
use Rattle.sweep.proofs.pass_endings.Given as goal

abbrev pub invariant-loop-at : goal.invariant-loop-at
invariant-loop-at l = Passing l.s l.closures l.opens l.ends (set_at l.set 0) l.opened l.at l.symbol l.reach l.tree
