-- The laws of the queue close the loop; where the pass gives up, the first row of the table is as it was.
use Rattle.std.proofs.Common.{arith, rules}
use Rattle.std.proofs.lemmas.Result.{err_from_is_err_and}
use Rattle.determinize.proofs.Attempts.{tried_visited, tried_start, attempt_unfinished, attempt_over, attempt_done}
use Rattle.determinize.proofs.Placing.{sink_count}
use Rattle.determinize.proofs.Queued.{explore_begins, start_canonical, explore_few, explore_bounded, explore_canonical, explore_start, explore_next, explore_over, explore_ended}
use Rattle.determinize.proofs.exploring.explore.Goals as goal

pub loop-i-init : goal.loop-i-init
loop-i-init c = record {
  long = c.requires.0.long;
  whole = c.requires.1;
  few = search rules;
  within = search rules;
  bounded = search rules;
  canonical = start_canonical _ _ _ _ c.requires.0.tables c.requires.0.start;
  queued = explore_begins _ _ _ _ _ c.requires.0.start;
  start = c.requires.0.start;
  placed = c.place_first.ensures.placed;
}

pub returns-then-is_full : goal.returns-then-is_full
returns-then-is_full c = attempt_unfinished _ _ _ _ _ _ c.loop-i.invariant.start

pub returns-in_err-progress : goal.returns-in_err-progress
returns-in_err-progress c =
    let p = err_from_is_err_and c.from_residual.result c.from_residual.ensures.1 in
    rw p.1 (attempt_unfinished _ _ _ _ _ _ (tried_start _ _ _ _ _ _ _ _ _ _ _ _ c.visit_set.ensures.visited _ c.in_err-progress.was c.loop-i.invariant.start))

pub returns-in_default : goal.returns-in_default
returns-in_default c =
    let visited = tried_visited _ _ _ _ _ _ _ _ _ _ _ _ c.visit_set.ensures.visited _ c.in_ok-progress.was in
    attempt_over _ _ _ _ _ _
    (explore_over _ _ _ _ _ _ _ _ _ c.loop-i.invariant.queued c.loop-i.invariant.within c.loop-i-test.true _ _ _ visited (search rules))

pub loop-i-preserved : goal.loop-i-preserved
loop-i-preserved c =
    let visited = tried_visited _ _ _ _ _ _ _ _ _ _ _ _ c.visit_set.ensures.visited _ c.in_ok-progress.was in
    record {
      long = search rules;
      whole = search rules;
      few = explore_few _ _ _ _ _ _ _ _ _ c.loop-i.invariant.queued c.loop-i.invariant.within c.loop-i-test.true _ _ _ visited _ c.in-Some.is;
      within = search rules;
      bounded = explore_bounded _ _ _ _ _ _ _ _ _ c.loop-i.invariant.queued c.loop-i.invariant.within c.loop-i-test.true _ _ _ visited _ c.in-Some.is c.loop-i.invariant.bounded;
      canonical = explore_canonical _ _ _ _ _ _ _ _ _ c.loop-i.invariant.queued c.loop-i.invariant.within c.loop-i-test.true _ _ _ visited _ c.in-Some.is;
      queued = explore_next _ _ _ _ _ _ _ _ _ c.loop-i.invariant.queued c.loop-i.invariant.within c.loop-i-test.true _ _ _ visited _ c.in-Some.is;
      start = explore_start _ _ _ _ _ _ _ _ _ c.loop-i.invariant.queued c.loop-i.invariant.within c.loop-i-test.true _ _ _ visited _ c.in-Some.is c.loop-i.invariant.start;
      placed = (c.visit_set.ensures.places.placed _ c.in_ok-progress.was).placed _ c.in-Some.is;
    }

pub is_full-requires-2 : goal.is_full-requires-2
is_full-requires-2 c = omega (arith, sink_count _ _ _ _ _ _ _ c.note_sink-all.ensures)

pub returns-then-is_full-2 : goal.returns-then-is_full-2
returns-then-is_full-2 c = attempt_unfinished _ _ _ _ _ _ c.loop-i.invariant.start

pub returns : goal.returns
returns c =
    let ended =
    explore_ended _ _ _ _ _ _ _ _ _ c.loop-i.invariant.queued c.loop-i.invariant.within c.loop-i-test.false c.loop-i.invariant.few c.loop-i.invariant.canonical _ _ c.note_sink-all.ensures in
    attempt_done _ _ _ _ _ _ _ ended (search rules) _ c.is_full-2.ensures c.if-is_full-2.false
