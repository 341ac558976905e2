-- The records up to the one at `at` pass.
use Rattle.std.proofs.Common.{◌≡◌, ◌+◌, ◌*◌, false, [], get_or}
use Rattle.automata.specs.inner.Records.{record_at}
use Rattle.sheets.specs.Fault.{is_bad}
use Rattle.sheets.specs.inner.Passed.{Passed}
use Rattle.sheets.proofs.pass_each.Given as goal

abbrev pub invariant-loop-at : goal.invariant-loop-at
invariant-loop-at l = record {
  good : is_bad l.n (record_at (get_or l.records l.at []) 0) ≡ false;
  key : l.before ≡ get_or (get_or l.records l.at []) 0 0 * 4294967296 + get_or (get_or l.records l.at []) 2 0;
  passed : Passed l.n l.records l.from l.at;
}
