-- The rows are closed through the states below `k`.
use Rattle.sets.specs.inner.Rows.{ClosedTo}
use Rattle.sets.proofs.closure.warshall.Given as goal

abbrev pub invariant-loop-k : goal.invariant-loop-k
invariant-loop-k l = ClosedTo l.initial.t l.t l.n l.k
