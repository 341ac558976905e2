-- The starts are joined in fresh sets, and the runs of one pair after the other are compared.
use Rattle.std.proofs.Common.{refl}
use Rattle.equivalence.proofs.WalkLaws.{walk_fits, walk_begin, walk_in_a, walk_in_b, walk_rejects, walk_run_a, walk_run_b, walk_runs, walk_lacks, walk_next, walk_ended}
use Rattle.equivalence.proofs.walk_pairs.Goals as goal

pub join_pair-made-requires : goal.join_pair-made-requires
join_pair-made-requires c = walk_fits _ _ _ _ c.requires _ c.new-fresh.ensures _ refl

pub loop-head-init : goal.loop-head-init
loop-head-init c = walk_begin _ _ _ _ c.requires _ c.new-fresh.ensures _ refl _ c.join_pair-made.ensures

pub accept_word-requires : goal.accept_word-requires
accept_word-requires c = (c.loop-head.invariant.sheets.first, walk_in_a _ _ _ _ _ _ _ c.loop-head.invariant c.loop-head-test.true)

pub accept_word-requires-in-loop-head : goal.accept_word-requires-in-loop-head
accept_word-requires-in-loop-head c = (c.loop-head.invariant.sheets.second, walk_in_b _ _ _ _ _ _ _ c.loop-head.invariant c.loop-head-test.true)

pub returns-then-accept_word : goal.returns-then-accept_word
returns-then-accept_word c =
    walk_rejects _ _ _ _ _ _ _ c.loop-head.invariant c.loop-head-test.true _ _ c.accept_word.ensures c.accept_word-in-loop-head.ensures c.if-accept_word.true

pub run-ra-requires : goal.run-ra-requires
run-ra-requires c = walk_run_a _ _ _ _ _ _ _ c.loop-head.invariant c.loop-head-test.true

pub run-rb-requires : goal.run-rb-requires
run-rb-requires c = walk_run_b _ _ _ _ _ _ _ c.loop-head.invariant c.loop-head-test.true

pub compare_runs-requires : goal.compare_runs-requires
compare_runs-requires c = walk_runs _ _ _ _ _ _ _ c.loop-head.invariant c.loop-head-test.true _ _ c.run-ra.ensures c.run-rb.ensures

pub returns-in_default : goal.returns-in_default
returns-in_default c =
    walk_lacks _ _ _ _ _ _ _ c.loop-head.invariant c.loop-head-test.true _ _ c.run-ra.ensures c.run-rb.ensures _ c.in_default.ensures.1

pub loop-head-preserved : goal.loop-head-preserved
loop-head-preserved c =
    walk_next _ _ _ _ _ _ _ c.loop-head.invariant c.loop-head-test.true _ _ c.run-ra.ensures c.run-rb.ensures _ c.in-Some.ensures
    _ _ c.accept_word.ensures c.accept_word-in-loop-head.ensures c.if-accept_word.false

pub returns : goal.returns
returns c = walk_ended _ _ _ _ _ _ _ c.loop-head.invariant c.loop-head-test.false
