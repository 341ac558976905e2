-- The first labels are entered.
use Rattle.std.proofs.Common.{◌≡◌}
use Rattle.labels.specs.inner.Places.{label_place}
use Rattle.subautomaton.proofs.Entering.{Entered}
use Rattle.subautomaton.proofs.enter_labels.Given as goal

abbrev pub invariant-loop : goal.invariant-loop
invariant-loop l = (l.at ≡ label_place l.b l.counter) × Entered l.b l.t l.n l.counter
