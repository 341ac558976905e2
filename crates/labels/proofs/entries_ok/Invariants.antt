-- What is left to ask of the bytes from the place on is what was asked of all.
use Rattle.std.proofs.Common.{◌≡◌, ◌-◌, drop}
use Rattle.labels.specs.Labels.{entries_ok}
use Rattle.labels.proofs.entries_ok.Given as goal

abbrev pub invariant-loop : goal.invariant-loop
invariant-loop l = entries_ok l.n (drop 2 l.b) ≡ entries_ok (l.n - l.counter) (drop l.at l.b)
