-- The rows from `p` on are the lists from the next place on.
use Rattle.std.proofs.Common.{◌≡◌, drop}
use Rattle.sets.specs.inner.BitSet.{entries}
use Rattle.replay_all.specs.Rows.{are_rows}
use Rattle.replay_all.proofs.closures.are_rows.Given as goal

abbrev pub invariant-loop-p : goal.invariant-loop-p
invariant-loop-p l = are_rows (entries l.rows l.n) l.case l.at ≡ are_rows (drop l.p (entries l.rows l.n)) l.case l.next
