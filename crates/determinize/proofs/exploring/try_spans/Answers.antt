-- The laws of the visits close the loop; where the set is long, the first row of the table is as it was.
use Rattle.std.proofs.Common.{arith, rules}
use Rattle.determinize.proofs.Attempts.{try_unfinished, try_finished}
use Rattle.determinize.proofs.Placing.{cut_less, cut_counts, cut_most}
use Rattle.determinize.proofs.Visits.{visit_laws, visit_done, visit_begins, visit_next, visit_over, visit_ended, canonical_next, first_some, first_kept}
use Rattle.determinize.proofs.exploring.try_spans.Goals as goal

pub loop-a-init : goal.loop-a-init
loop-a-init c = search (visit_begins, rules)

pub overflow_sub-last : goal.overflow_sub-last
overflow_sub-last c = search visit_laws

pub overflow_cast-last : goal.overflow_cast-last
overflow_cast-last c = search visit_laws

pub returns-then-n-eq-MOST_STATES-clause-visited : goal.returns-then-n-eq-MOST_STATES-clause-visited
returns-then-n-eq-MOST_STATES-clause-visited c =
    try_finished _ _ _ _ _ _ _ _ _ _ _ _
    (visit_over _ _ _ _ _ _ _ _ _ _ _ _ _ c.loop-a.invariant.visited c.loop-a-test.true _ c.visit-visited.ensures.cut _ _ _
    (visit_done _ _ _ _ _ _ _ _ _ _ _ c.visit-visited.ensures.number c.note.ensures) (omega arith))

pub returns-then-is_found_long-clause-visited : goal.returns-then-is_found_long-clause-visited
returns-then-is_found_long-clause-visited c =
    try_unfinished _ _ _ _ _ _ _ _ _ _ _ _
    (first_kept _ _ _ _ _ _ _ _ _ _ _ (visit_done _ _ _ _ _ _ _ _ _ _ _ c.visit-visited.ensures.number c.note.ensures) c.loop-a.invariant.some _ c.loop-a.invariant.start)

pub loop-a-smaller : goal.loop-a-smaller
loop-a-smaller c = search (cut_less, rules)

pub loop-a-preserved : goal.loop-a-preserved
loop-a-preserved c =
    let visited = visit_done _ _ _ _ _ _ _ _ _ _ _ c.visit-visited.ensures.number c.note.ensures in
    record {
      top = search rules;
      long = search rules;
      whole = search rules;
      some = first_some _ _ _ _ _ _ _ _ _ _ _ visited c.loop-a.invariant.some;
      few = search rules;
      below = search cut_most;
      more = search rules;
      counted = search cut_counts;
      start = first_kept _ _ _ _ _ _ _ _ _ _ _ visited c.loop-a.invariant.some _ c.loop-a.invariant.start;
      canonical = canonical_next _ c.requires.tables.0.accepted _ _ _ _ _ _ _ _ _ _ c.loop-a.invariant.canonical visited;
      visited = visit_next _ _ _ _ _ _ _ _ _ _ _ _ _ c.loop-a.invariant.visited c.loop-a-test.true _ c.visit-visited.ensures.cut _ _ _ visited;
      placed = c.visit-visited.ensures.places;
    }

pub returns-clause-visited : goal.returns-clause-visited
returns-clause-visited c =
    try_finished _ _ _ _ _ _ _ _ _ _ _ _
    (visit_ended _ _ _ _ _ _ _ _ _ _ _ _ _ c.loop-a.invariant.visited c.loop-a-test.false c.loop-a.invariant.few c.loop-a.invariant.canonical c.loop-a.invariant.counted c.loop-a.invariant.below)
