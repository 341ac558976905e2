-- The records from the first on decide, and from the last that passed on those behind it.
use Rattle.std.proofs.Common.{◌≡◌, [], Ok, length, get_or, refl, rules}
use Rattle.automata.proofs.Chunks.{records_are}
use Rattle.sheets.proofs.Checking.{records_passed}
use Rattle.sheets.proofs.check_records.Goals as goal

pub loop-at-init : goal.loop-at-init
loop-at-init c = rw (records_are _ _ c.as_chunks.ensures.front)

pub loop-at-preserved : goal.loop-at-preserved
loop-at-preserved c =
    let long : length (get_or c.as_chunks.result.0.now c.pass_records-last.result []) ≡ 5 = search rules in
    records_passed _ _ _ _ _ c.loop-at.invariant c.loop-at-test.true (Ok tt) c.in_ok-check_record.ensures refl _ c.pass_records-last.ensures long
