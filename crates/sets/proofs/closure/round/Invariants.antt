-- The rows below `p` are visited.
use Rattle.std.proofs.Common.{◌≡◌}
use Rattle.sets.specs.inner.Words.{visit_rows}
use Rattle.sets.proofs.closure.round.Given as goal

abbrev pub invariant-loop-p : goal.invariant-loop-p
invariant-loop-p l = l.t ≡ visit_rows l.initial.t l.k l.p
