-- The starts are joined in fresh sets, and the runs of one pair after the other are compared.
use Rattle.std.proofs.Common.{refl}
use Rattle.pairs.specs.inner.Pairs.{pairs_of}
use Rattle.equality.proofs.WalkLaws.{walk_fits, walk_begin, walk_run_a, walk_run_b, walk_spell, walk_differs, walk_same}
use Rattle.equality.proofs.walk.walk_pairs.Goals as goal

pub join_pair-made-requires : goal.join_pair-made-requires
join_pair-made-requires c = walk_fits _ _ _ _ _ _ _ c.requires _ c.new-fresh.ensures _ refl

pub loop-head-init : goal.loop-head-init
loop-head-init c = (walk_begin _ _ _ _ _ _ _ c.requires _ c.new-fresh.ensures _ refl _ c.join_pair-made.ensures _ refl refl, refl)

pub run-ra-requires : goal.run-ra-requires
run-ra-requires c = walk_run_a _ _ _ _ _ _ _ _ _ _ _ c.loop-head.invariant.0 c.loop-head-test.true

pub run-rb-requires : goal.run-rb-requires
run-rb-requires c = walk_run_b _ _ _ _ _ _ _ _ _ _ _ c.loop-head.invariant.0 c.loop-head-test.true

pub spell-requires : goal.spell-requires
spell-requires c =
    let r = c.compare_runs-t.new in
    walk_spell _ _ _ _ _ _ _ _ _ _ _ c.loop-head.invariant.0 (pairs_of r.repr r.size r.queue c.new-fresh.result.sets.n c.compare_runs-t.result.made) r.trail _ c.compare_runs-t.ensures _ c.in-Some.is

pub returns-in-Some : goal.returns-in-Some
returns-in-Some c =
    let r = c.compare_runs-t.new in
    walk_differs _ _ _ _ _ _ _ _ _ _ _ c.loop-head.invariant.0 (pairs_of r.repr r.size r.queue c.new-fresh.result.sets.n c.compare_runs-t.result.made) r.trail _ c.compare_runs-t.ensures _ c.in-Some.is _ _ c.spell.ensures _ c.loop-head.invariant.1

pub returns : goal.returns
returns c = walk_same _ _ _ _ _ _ _ _ _ _ _ c.loop-head.invariant.0 c.loop-head-test.false _ c.loop-head.invariant.1
