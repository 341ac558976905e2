-- The transitions of the records from `left` on that leave a state that was met lead to states that were met.
use Rattle.std.proofs.Common.{◌≤◌}
use Rattle.sheets.specs.Sheet.{records_at, read}
use Rattle.emptiness.specs.inner.Passes.{PassInvariant, backward}
use Rattle.emptiness.proofs.Passes.{Down}
use Rattle.emptiness.proofs.pass_down.Given as goal

abbrev pub invariant-loop-left : goal.invariant-loop-left
invariant-loop-left l = record { idle : l.idle ≤ 8; passed : PassInvariant Down (read l.s) l.marks (backward l.s (records_at l.s) l.left) }
