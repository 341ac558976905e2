-- The successors of the pairs before `head` are joined.
use Rattle.std.proofs.Common.{◌-◌, ◌≡◌}
use Rattle.pairs.specs.inner.Pairs.{pairs_of}
use Rattle.equality.proofs.WalkLaws.{WalkInvariant}
use Rattle.equality.proofs.walk.walk_pairs.Given as goal

abbrev pub invariant-loop-head : goal.invariant-loop-head
invariant-loop-head l = WalkInvariant l.a l.b l.starts_a l.starts_b l.ends.lower l.ends.upper l.n1 l.head (pairs_of l.repr l.size l.queue l.n l.made) l.trail l.word × (l.word ≡ l.initial.word)

abbrev pub decreases-loop-head : goal.decreases-loop-head
decreases-loop-head l = 512 - l.head
