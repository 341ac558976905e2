-- By the laws by which the states are passed.
use Rattle.std.proofs.Common.{arith}
use Rattle.epsilon.proofs.Parts.{part_again, part_over, all_over, all_next, all_laws}
use Rattle.epsilon.proofs.add_closures.Goals as goal

pub loop-p-init : goal.loop-p-init
loop-p-init c = record { same = search all_laws; collected = search all_laws; rest = search all_laws }

pub returns-then-part-end : goal.returns-then-part-end
returns-then-part-end c = part_over c.args.s.now _ _ _ _ _ c.loop-p.invariant.rest c.loop-p-test.true _ _ c.closure_part-end.ensures.1 c.if-part-end.true (omega arith)

pub returns-then-buf-f : goal.returns-then-buf-f
returns-then-buf-f c = all_over c.args.s.now _ _ _ _ _ c.loop-p.invariant.rest c.loop-p-test.true _ _ c.closure_part-end.ensures.1 c.if-part-end.false _ _ _ c.add_run-f.ensures c.if-buf-f.true

pub loop-p-preserved : goal.loop-p-preserved
loop-p-preserved c = record {
  same = search all_laws;
  collected = part_again c.args.s.now _ _ _ c.loop-p.p c.closure_part-end.ensures.0 c.closure_part-end.ensures.1;
  rest = all_next c.args.s.now _ _ _ _ _ c.loop-p.invariant.rest c.loop-p-test.true _ _ c.closure_part-end.ensures.1 c.if-part-end.false _ _ _ c.add_run-f.ensures c.if-buf-f.false;
}

pub returns : goal.returns
returns c = search all_laws
