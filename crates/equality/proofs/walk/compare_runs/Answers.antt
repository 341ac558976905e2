-- What two records share is done, and then the one that ends first is passed.
use Rattle.equality.proofs.RunLaws.{runs_accept_a, runs_accept_b, runs_fit, runs_step_fits, runs_joined, runs_skip, runs_next_a, runs_next_b, runs_end_a, runs_end_b, runs_differ}
use Rattle.equality.proofs.walk.compare_runs.Goals as goal
use Rattle.equality.proofs.walk.compare_runs.Goals.{in-Some+else-accept_word, in_default}

pub accept_word-requires : goal.accept_word-requires
accept_word-requires c = runs_accept_a _ _ _ _ _ _ _ _ _ _ _ _ _ _ c.loop-k.invariant c.if-records_a-j.false

pub accept_word-requires-in-Some : goal.accept_word-requires-in-Some
accept_word-requires-in-Some c = runs_accept_b _ _ _ _ _ _ _ _ _ _ _ _ _ _ c.loop-k.invariant c.if-records_b-k.false

pub join_pair-more-requires : goal.join_pair-more-requires
join_pair-more-requires c = runs_fit _ _ _ _ _ _ _ _ _ _ _ _ _ _ c.loop-k.invariant c.if-records_a-j.false c.if-records_b-k.false _ c.in-Some.ensures

pub put_step-requires : goal.put_step-requires
put_step-requires c = runs_step_fits _ _ _ _ _ _ _ _ _ _ _ _ _ _ c.loop-k.invariant c.if-records_a-j.false c.if-records_b-k.false _ c.in-Some.ensures

pub loop-k-preserved : goal.loop-k-preserved
loop-k-preserved c =
    runs_next_b _ _ _ _ _ _ _ _ _ _ _ _ _ _
    (elim c.match-first_common.branch [
      | in-Some+else-accept_word w ↦
          rw (w.repr-is, w.size-is, w.queue-is, w.trail-is, w.made-is)
          (runs_joined _ _ _ _ _ _ _ _ _ _ _ _ _ _ c.loop-k.invariant c.if-records_a-j.false c.if-records_b-k.false _ w.in-Some.ensures
          _ _ w.accept_word.ensures w.accept_word-in-Some.ensures w.if-accept_word.false _ w.join_pair-more.ensures _ w.put_step.ensures)
      | in_default w ↦ rw (w.repr-is, w.size-is, w.queue-is, w.trail-is, w.made-is) (runs_skip _ _ _ _ _ _ _ _ _ _ _ _ _ _ c.loop-k.invariant c.if-records_a-j.false c.if-records_b-k.false w.in_default.ensures)
    ])
    c.if-records_a-j.false c.if-records_b-k.false c.if-d-e.false

pub runs-preserved : goal.runs-preserved
runs-preserved c =
    runs_next_a _ _ _ _ _ _ _ _ _ _ _ _ _ _
    (elim c.match-first_common.branch [
      | in-Some+else-accept_word w ↦
          rw (w.repr-is, w.size-is, w.queue-is, w.trail-is, w.made-is)
          (runs_joined _ _ _ _ _ _ _ _ _ _ _ _ _ _ c.loop-k.invariant c.if-records_a-j.false c.if-records_b-k.false _ w.in-Some.ensures
          _ _ w.accept_word.ensures w.accept_word-in-Some.ensures w.if-accept_word.false _ w.join_pair-more.ensures _ w.put_step.ensures)
      | in_default w ↦ rw (w.repr-is, w.size-is, w.queue-is, w.trail-is, w.made-is) (runs_skip _ _ _ _ _ _ _ _ _ _ _ _ _ _ c.loop-k.invariant c.if-records_a-j.false c.if-records_b-k.false w.in_default.ensures)
    ])
    c.if-records_a-j.false c.if-records_b-k.false c.if-d-e.true

pub returns-then-records_a-j : goal.returns-then-records_a-j
returns-then-records_a-j c = runs_end_a _ _ _ _ _ _ _ _ _ _ _ _ _ _ c.runs.invariant c.if-records_a-j.true

pub returns-then-records_b-k : goal.returns-then-records_b-k
returns-then-records_b-k c = runs_end_b _ _ _ _ _ _ _ _ _ _ _ _ _ _ c.loop-k.invariant c.if-records_b-k.true

pub returns-then-accept_word : goal.returns-then-accept_word
returns-then-accept_word c =
    runs_differ _ _ _ _ _ _ _ _ _ _ _ _ _ _ c.loop-k.invariant c.if-records_a-j.false c.if-records_b-k.false _ c.in-Some.ensures
    _ _ c.accept_word.ensures c.accept_word-in-Some.ensures c.if-accept_word.true
