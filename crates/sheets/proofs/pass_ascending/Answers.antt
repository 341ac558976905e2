use Rattle.std.proofs.Common.{◌≡◌, ◌+◌, ◌<◌, [], length, get_or, arith, rules}
use Rattle.sheets.proofs.Passing.{pass_below, below_passed, is_key, below_range}
use Rattle.sheets.proofs.pass_ascending.Goals as goal
use Rattle.sheets.proofs.pass_ascending.Goals.{then-key-eq0+else-n-records+else-not-passes, else-key-eq0}

pub loop-at-preserved : goal.loop-at-preserved
loop-at-preserved c =
    let kept = c.loop-at.invariant in
    let more : c.loop-at.at + 1 < length c.args.records.now = omega arith in
    let long : length (get_or c.args.records.now c.loop-at.at []) ≡ 5 = search rules in
    let told = c.range_key-key.ensures in
    elim c.if-key-eq0.branch [
      | then-key-eq0+else-n-records+else-not-passes w ↦ rw w.before-is (record {
        key = w.order_key-before-then-key-eq0.ensures;
        passed = pass_below _ _ _ _ (below_passed _ _ _ _ kept.passed w.if-n-records.false) more long _ w.passes.ensures w.if-not-passes.false;
      })
      | else-key-eq0 w ↦ rw w.before-is (record {
        key = is_key _ _ _ _ kept.passed more (told.first w.if-key-eq0.false) _ kept.key _ told.key w.if-key-eq0.false;
        passed = below_range _ _ _ _ kept.passed more (told.first w.if-key-eq0.false) _ kept.key _ told.key w.if-key-eq0.false;
      })
    ]
