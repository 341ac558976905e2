-- The laws of the visits and of the pass over the events close the loop.
use Rattle.std.proofs.Common.{arith, rules}
use Rattle.sweep.proofs.Begin.{passing_begin}
use Rattle.determinize.proofs.Swept.{visited_root, passing_next, numbered_none}
use Rattle.determinize.proofs.Visits.{visit_begins, visit_next, visit_over, visit_ended, canonical_next}
use Rattle.determinize.proofs.Placing.{cut_some, cut_less, cut_counts, cut_most}
use Rattle.determinize.proofs.sweeping.sweep_spans.Goals as goal

pub loop-turn-init : goal.loop-turn-init
loop-turn-init c = record {
  top = search rules;
  few_noted = search rules;
  long = search rules;
  whole = search rules;
  few = search rules;
  below = search rules;
  counted = search rules;
  canonical = search rules;
  visited = search visit_begins;
  passed = search passing_begin;
  numbered = search (numbered_none, rules);
  placed = search rules;
}

pub visit_swept-placed-requires : goal.visit_swept-placed-requires
visit_swept-placed-requires c = (
  search rules,
  cut_some _ _ _ _ c.step-turn.ensures.cut c.loop-turn-test.true,
  cut_most _ _ _ _ c.step-turn.ensures.cut c.loop-turn.invariant.top,
  c.loop-turn.invariant.few,
  c.loop-turn.invariant.long,
  c.loop-turn.invariant.whole,
  c.loop-turn.invariant.numbered,
  c.loop-turn.invariant.placed,
)

pub returns-then-n-eq-MOST_STATES-clause-visited : goal.returns-then-n-eq-MOST_STATES-clause-visited
returns-then-n-eq-MOST_STATES-clause-visited c =
    let visited = visited_root _ _ _ _ _ _ _ _ _ _ _ c.step-turn.ensures.reached c.visit_swept-placed.ensures.visited in
    visit_over _ _ _ _ _ _ _ _ _ _ _ _ _ c.loop-turn.invariant.visited c.loop-turn-test.true _ c.step-turn.ensures.cut _ _ _ visited (omega arith)

pub loop-turn-smaller : goal.loop-turn-smaller
loop-turn-smaller c = cut_less _ _ _ _ c.step-turn.ensures.cut c.loop-turn-test.true

pub loop-turn-preserved : goal.loop-turn-preserved
loop-turn-preserved c =
    let visited = visited_root _ _ _ _ _ _ _ _ _ _ _ c.step-turn.ensures.reached c.visit_swept-placed.ensures.visited in
    record {
      top = search rules;
      few_noted = search rules;
      long = search rules;
      whole = search rules;
      few = search rules;
      below = cut_most _ _ _ _ c.step-turn.ensures.cut c.loop-turn.invariant.top;
      counted = cut_counts _ _ _ _ c.step-turn.ensures.cut _ _ _ c.loop-turn-test.true c.loop-turn.invariant.counted;
      canonical = canonical_next _ c.requires.closed.0.accepted _ _ _ _ _ _ _ _ _ _ c.loop-turn.invariant.canonical visited;
      visited = visit_next _ _ _ _ _ _ _ _ _ _ _ _ _ c.loop-turn.invariant.visited c.loop-turn-test.true _ c.step-turn.ensures.cut _ _ _ visited;
      passed = passing_next _ _ _ _ _ _ _ _ _ _ c.step-turn.ensures.passing _ _ _ c.loop-turn-test.true c.step-turn.ensures.cut;
      numbered = c.visit_swept-placed.ensures.numbered;
      placed = c.visit_swept-placed.ensures.places;
    }

pub returns-clause-visited : goal.returns-clause-visited
returns-clause-visited c = search (visit_ended, rules)
