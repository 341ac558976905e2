-- The pairs before `head` do not differ, and what they lead to is joined.
use Rattle.std.proofs.Common.{◌-◌}
use Rattle.pairs.specs.inner.Pairs.{pairs_of}
use Rattle.equivalence.proofs.WalkLaws.{WalkInvariant}
use Rattle.equivalence.proofs.walk_pairs.Given as goal

abbrev pub invariant-loop-head : goal.invariant-loop-head
invariant-loop-head l = WalkInvariant l.a l.b l.starts_a l.starts_b l.n1 l.head (pairs_of l.repr l.size l.queue l.n l.made)

abbrev pub decreases-loop-head : goal.decreases-loop-head
decreases-loop-head l = 512 - l.head
