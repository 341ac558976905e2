-- The table holds the first targets of the states below `q`.
use Rattle.std.proofs.Common.{◌≡◌}
use Rattle.sheets.specs.Sheet.{read}
use Rattle.emptiness.specs.inner.Marks.{targets_below}
use Rattle.emptiness.proofs.first_targets.Given as goal

abbrev pub invariant-loop-q : goal.invariant-loop-q
invariant-loop-q l = l.targets ≡ targets_below (read l.s) l.fn.targets l.q
