-- The records up to the one at `at` pass, if that leaves a state below n.
use Rattle.std.proofs.Common.{◌≡◌, ◌+◌, ◌*◌, [], get_or}
use Rattle.sheets.specs.inner.Passed.{PassedBelow}
use Rattle.sheets.proofs.pass_ascending.Given as goal

abbrev pub invariant-loop-at : goal.invariant-loop-at
invariant-loop-at l = record {
  key : l.before ≡ get_or (get_or l.records l.at []) 0 0 * 4294967296 + get_or (get_or l.records l.at []) 2 0;
  passed : PassedBelow l.n l.records l.from l.at;
}
