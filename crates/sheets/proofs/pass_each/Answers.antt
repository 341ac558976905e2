use Rattle.std.proofs.Common.{◌≡◌, ◌+◌, ◌<◌, [], length, get_or, arith, rules}
use Rattle.sheets.proofs.Passing.{pass_good, pass_next}
use Rattle.sheets.proofs.pass_each.Goals as goal

pub loop-at-preserved : goal.loop-at-preserved
loop-at-preserved c =
    let more : c.loop-at.at + 1 < length c.args.records.now = omega arith in
    let long : length (get_or c.args.records.now c.loop-at.at []) ≡ 5 = search rules in
    record {
      good = pass_good _ _ _ _ c.loop-at.invariant.passed more long _ c.passes.ensures c.if-not-passes.false;
      key = search rules;
      passed = pass_next _ _ _ _ c.loop-at.invariant.passed more long _ c.passes.ensures c.if-not-passes.false;
    }
