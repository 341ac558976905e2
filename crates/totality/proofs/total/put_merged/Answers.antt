-- By the laws of merging.
use Rattle.std.proofs.Common.{rules}
use Rattle.totality.proofs.Merging.{merge_laws, merge_whole, merge_mergeable, hole_next}
use Rattle.totality.proofs.total.put_merged.Goals as goal

pub loop-hole-init : goal.loop-hole-init
loop-hole-init c = record { within = search rules; whole = search rules; mergeable = search merge_laws; left = search merge_laws }

pub put_all-end-requires : goal.put_all-end-requires
put_all-end-requires c = search merge_laws

pub put_record-end-requires : goal.put_record-end-requires
put_record-end-requires c = search merge_laws

pub loop-hole-preserved : goal.loop-hole-preserved
loop-hole-preserved c = record {
  within = search rules;
  whole = search (merge_whole, rules);
  mergeable = search (merge_mergeable, rules);
  left = hole_next _ _ _ _ _ _ _ _ c.as_chunks.result.0.now _ c.loop-hole.hole-index c.loop-hole.invariant.left c.loop-hole.invariant.whole c.loop-hole.invariant.mergeable c.loop-hole-test.true
      _ c.records_before-k.ensures.0 c.records_before-k.ensures.1 _ _ c.put_all-end.ensures _ _ c.put_record-end.ensures;
}

pub put_all-requires : goal.put_all-requires
put_all-requires c = search merge_laws

pub returns : goal.returns
returns c = search merge_laws
