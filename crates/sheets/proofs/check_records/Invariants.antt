-- The records from `at` on decide, behind the one before.
use Rattle.std.proofs.Common.{◌≡◌, ◌-◌, [], length, drop}
use Rattle.automata.specs.Records.{read_records}
use Rattle.automata.specs.inner.Chunks.{records_of}
use Rattle.sheets.specs.Fault.{records_fault}
use Rattle.sheets.proofs.check_records.Given as goal

abbrev pub invariant-loop-at : goal.invariant-loop-at
invariant-loop-at l = records_fault l.n [] (read_records l.t) ≡ records_fault l.n l.before (records_of (drop l.at l.records))

abbrev pub decreases-loop-at : goal.decreases-loop-at
decreases-loop-at l = length l.records - l.at
