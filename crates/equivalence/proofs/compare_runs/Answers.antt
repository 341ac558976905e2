-- Equal triggers are joined, up to one that is lacking.
use Rattle.automata.proofs.Chunks.{records_are}
use Rattle.pairs.specs.inner.Pairs.{pairs_of}
use Rattle.equivalence.proofs.RunLaws.{runs_begin, runs_short, runs_done, runs_answer, runs_fit, runs_apart, runs_next}
use Rattle.equivalence.proofs.compare_runs.Goals as goal

pub loop-j-init : goal.loop-j-init
loop-j-init c = runs_begin _ _ _ _ _ _ (records_are _ _ c.as_chunks.ensures.front) (records_are _ _ c.as_chunks-2.ensures.front) c.requires

pub returns-then-records_b-k : goal.returns-then-records_b-k
returns-then-records_b-k c = (c.loop-j.made, runs_short _ _ _ _ _ _ _ _ _ c.loop-j.invariant c.loop-j-test.true c.if-records_b-k.true)

pub returns-then-not-same_trigger : goal.returns-then-not-same_trigger
returns-then-not-same_trigger c = (c.loop-j.made, runs_apart _ _ _ _ _ _ _ _ _ c.loop-j.invariant c.loop-j-test.true c.if-records_b-k.false _ c.same_trigger.ensures c.if-not-same_trigger.true)

pub join_pair-made-requires : goal.join_pair-made-requires
join_pair-made-requires c = runs_fit _ _ _ _ _ _ _ _ _ c.loop-j.invariant c.loop-j-test.true c.if-records_b-k.false

pub loop-j-preserved : goal.loop-j-preserved
loop-j-preserved c =
    runs_next _ _ _ _ _ _ _ _ _ c.loop-j.invariant c.loop-j-test.true c.if-records_b-k.false _ c.same_trigger.ensures c.if-not-same_trigger.false _ c.join_pair-made.ensures
    _ _ c.next_trigger-j.ensures c.next_trigger-k.ensures

pub returns : goal.returns
returns c = rw c.then_some.ensures (runs_answer _ _ _ _ (pairs_of c.loop-j.repr c.loop-j.size c.loop-j.queue c.args.n) c.loop-j.made _ (runs_done _ _ _ _ _ _ _ _ _ c.loop-j.invariant c.loop-j-test.false))
