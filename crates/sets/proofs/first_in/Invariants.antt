-- No member stands in the words passed.
use Rattle.std.proofs.Common.{◌≡◌, ◌*◌}
use Rattle.sets.specs.inner.BitSet.{set_at}
use Rattle.sets.specs.inner.Members.{next_member}
use Rattle.sets.proofs.first_in.Given as goal

abbrev pub invariant-loop-j : goal.invariant-loop-j
invariant-loop-j l = next_member (set_at l.s 0) (64 * l.j) ≡ next_member (set_at l.s 0) (64 * l.i)
