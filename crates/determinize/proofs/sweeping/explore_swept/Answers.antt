-- The laws of the queue close the loop.
use Rattle.std.proofs.Common.{rules}
use Rattle.determinize.proofs.Queued.{explore_begins, start_canonical, explore_few, explore_bounded, explore_canonical, explore_next, explore_over, explore_ended}
use Rattle.determinize.proofs.sweeping.explore_swept.Goals as goal

pub loop-i-init : goal.loop-i-init
loop-i-init c = record {
  long = c.requires.0.long;
  whole = c.requires.3;
  few = search rules;
  within = search rules;
  bounded = search rules;
  canonical = start_canonical _ _ _ _ c.requires.0.tables c.requires.0.start;
  queued = explore_begins _ _ _ _ _ c.requires.0.start;
  placed = c.place_first.ensures.placed;
}

pub returns-in_default : goal.returns-in_default
returns-in_default c =
    explore_over _ _ _ _ _ _ _ _ _ c.loop-i.invariant.queued c.loop-i.invariant.within c.loop-i-test.true _ _ _ c.visit_entry-progress.ensures.visited (search rules)

pub loop-i-preserved : goal.loop-i-preserved
loop-i-preserved c =
    let visited = c.visit_entry-progress.ensures.visited in
    record {
      long = search rules;
      whole = search rules;
      few = explore_few _ _ _ _ _ _ _ _ _ c.loop-i.invariant.queued c.loop-i.invariant.within c.loop-i-test.true _ _ _ visited _ c.in-Some.is;
      within = search rules;
      bounded = explore_bounded _ _ _ _ _ _ _ _ _ c.loop-i.invariant.queued c.loop-i.invariant.within c.loop-i-test.true _ _ _ visited _ c.in-Some.is c.loop-i.invariant.bounded;
      canonical = explore_canonical _ _ _ _ _ _ _ _ _ c.loop-i.invariant.queued c.loop-i.invariant.within c.loop-i-test.true _ _ _ visited _ c.in-Some.is;
      queued = explore_next _ _ _ _ _ _ _ _ _ c.loop-i.invariant.queued c.loop-i.invariant.within c.loop-i-test.true _ _ _ visited _ c.in-Some.is;
      placed = c.visit_entry-progress.ensures.places.placed _ c.in-Some.is;
    }

pub returns : goal.returns
returns c = search (explore_ended, rules)
