-- Each record is stored behind those before it.
use Rattle.std.proofs.Common.{refl, arith, rules}
use Rattle.replay_all.proofs.Spans.{ranges_next, ranges_count, ranges_ended}
use Rattle.replay_all.proofs.symbols.put_ranges.Goals as goal

pub loop-to-init : goal.loop-to-init
loop-to-init c = record { place = omega arith; stored = refl; count = refl }

pub loop-to-preserved : goal.loop-to-preserved
loop-to-preserved c =
    let i = c.loop-to.invariant in
    let w = c.put_record-at.ensures in
    record {
      place = search rules;
      stored = ranges_next _ _ _ c.as_chunks.ensures.front _ _ (search rules) _ _ w _ _ i.stored;
      count = ranges_count _ _ _ c.as_chunks.ensures.front _ _ (search rules) _ _ w _ i.count;
    }

pub returns : goal.returns
returns c = let i = c.loop-to.invariant in ranges_ended _ _ _ _ _ _ i.stored i.count (search rules)
