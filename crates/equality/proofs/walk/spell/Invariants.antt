-- The word from pair `c` on stands behind `at`.
use Rattle.std.proofs.Common.{◌+◌}
use Rattle.equality.specs.inner.Walking.{trail_of}
use Rattle.equality.proofs.Spelling.{Spelling}
use Rattle.equality.proofs.walk.spell.Given as goal

abbrev pub invariant-loop-at : goal.invariant-loop-at
invariant-loop-at l = Spelling (trail_of l.trail) l.i l.x (l.n + 1) l.initial.out l.out l.at l.c
