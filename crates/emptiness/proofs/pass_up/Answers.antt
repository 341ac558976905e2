-- By the laws of a pass upward.
use Rattle.std.proofs.Common.{refl, arith}
use Rattle.emptiness.proofs.Passes.{up_begins, up_from, up_state, up_to, up_unmet, up_met, up_accepts, up_marks, up_ends}
use Rattle.emptiness.proofs.pass_up.Goals as goal

pub loop-r-init : goal.loop-r-init
loop-r-init c = record { idle = omega arith; passed = up_begins _ c.requires.0 _ _ _ refl c.as_chunks.ensures.front c.requires.1 }

pub bounds-marks-to : goal.bounds-marks-to
bounds-marks-to c = up_to _ c.requires.0 _ _ _ c.loop-r.invariant.passed c.loop-r-test.true

pub bounds-marks-from : goal.bounds-marks-from
bounds-marks-from c = up_from _ c.requires.0 _ _ _ c.loop-r.invariant.passed c.loop-r-test.true

pub accept_word-requires : goal.accept_word-requires
accept_word-requires c = (c.requires.0, up_state _ c.requires.0 _ _ _ c.loop-r.invariant.passed c.loop-r-test.true)

pub returns-then-accept_word-gt0 : goal.returns-then-accept_word-gt0
returns-then-accept_word-gt0 c = up_accepts _ c.requires.0 _ _ _ c.loop-r.invariant.passed c.loop-r-test.true c.if-marks-from-eq0.false _ c.accept_word.ensures c.if-accept_word-gt0.true

pub bounds-marks-to-else-marks-from-eq0 : goal.bounds-marks-to-else-marks-from-eq0
bounds-marks-to-else-marks-from-eq0 c = up_to _ c.requires.0 _ _ _ c.loop-r.invariant.passed c.loop-r-test.true

pub loop-r-preserved : goal.loop-r-preserved
loop-r-preserved c = record { idle = grind arith; passed = grind (arith, up_unmet _ c.requires.0 _ _ _ c.loop-r.invariant.passed c.loop-r-test.true, up_met _ c.requires.0 _ _ _ c.loop-r.invariant.passed c.loop-r-test.true, up_marks _ c.requires.0 _ _ _ c.loop-r.invariant.passed c.loop-r-test.true) }

pub returns : goal.returns
returns c = up_ends _ c.requires.0 _ _ _ c.loop-r.invariant.passed c.loop-r-test.false
