-- The transitions of the records before the index that leave a state that was met lead to states that were met.
use Rattle.std.proofs.Common.{◌≤◌, drop}
use Rattle.automata.specs.inner.Chunks.{records_of}
use Rattle.sheets.specs.Sheet.{read}
use Rattle.emptiness.specs.inner.Passes.{PassInvariant}
use Rattle.emptiness.proofs.Passes.{Up}
use Rattle.emptiness.proofs.pass_up.Given as goal

abbrev pub invariant-loop-r : goal.invariant-loop-r
invariant-loop-r l = record { idle : l.idle ≤ 8; passed : PassInvariant Up (read l.s) l.marks (records_of (drop l.r-index l.records)) }
