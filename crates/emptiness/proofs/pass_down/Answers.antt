-- By the laws of a pass downward.
use Rattle.std.proofs.Common.{arith}
use Rattle.emptiness.proofs.Passes.{down_begins, down_from, down_state, down_to, down_unmet, down_met, down_accepts, down_marks, down_ends}
use Rattle.emptiness.proofs.pass_down.Goals as goal

pub loop-left-init : goal.loop-left-init
loop-left-init c = record { idle = omega arith; passed = down_begins _ c.requires.0 _ c.requires.1 }

pub bounds-marks-to : goal.bounds-marks-to
bounds-marks-to c = down_to _ c.requires.0 _ _ c.loop-left.invariant.passed c.loop-left-test.true

pub bounds-marks-from : goal.bounds-marks-from
bounds-marks-from c = down_from _ c.requires.0 _ _ c.loop-left.invariant.passed c.loop-left-test.true

pub loop-left-preserved-then-marks-from-eq0 : goal.loop-left-preserved-then-marks-from-eq0
loop-left-preserved-then-marks-from-eq0 c = record { idle = omega arith; passed = down_unmet _ c.requires.0 _ _ c.loop-left.invariant.passed c.loop-left-test.true c.if-marks-from-eq0.true }

pub accept_word-requires : goal.accept_word-requires
accept_word-requires c = (c.requires.0, down_state _ c.requires.0 _ _ c.loop-left.invariant.passed c.loop-left-test.true)

pub returns-then-accept_word-gt0 : goal.returns-then-accept_word-gt0
returns-then-accept_word-gt0 c = down_accepts _ c.requires.0 _ _ c.loop-left.invariant.passed c.loop-left-test.true c.if-marks-from-eq0.false _ c.accept_word.ensures c.if-accept_word-gt0.true

pub loop-left-preserved-else-marks-from-eq0 : goal.loop-left-preserved-else-marks-from-eq0
loop-left-preserved-else-marks-from-eq0 c = record { idle = omega arith; passed = down_marks _ c.requires.0 _ _ c.loop-left.invariant.passed c.loop-left-test.true c.if-marks-from-eq0.false _ c.accept_word.ensures c.if-accept_word-gt0.false (omega arith) }

pub loop-left-preserved : goal.loop-left-preserved
loop-left-preserved c = record { idle = omega arith; passed = down_met _ c.requires.0 _ _ c.loop-left.invariant.passed c.loop-left-test.true c.if-marks-to-eq0.false }

pub returns : goal.returns
returns c = down_ends _ c.requires.0 _ _ c.loop-left.invariant.passed c.loop-left-test.false
