-- What each byte does to the line: a line feed ends it, a blank ends a number, a digit goes on with one, and another byte is refused.
use Rattle.std.proofs.Common.{arith, rules}
use Rattle.replay.proofs.Lines.{line_laws, feed_laws, other_laws, over_laws, end_laws, end_answer}
use Rattle.replay.proofs.read_line.Goals as goal
use Rattle.replay.proofs.read_line.Goals.{then-b-eq32, else-b-eq32+else-not-is_digit+else-w-gt4294967295}

pub loop-i-init : goal.loop-i-init
loop-i-init c = search line_laws

pub returns-then-b-eq10-clause-answer : goal.returns-then-b-eq10-clause-answer
returns-then-b-eq10-clause-answer c = search feed_laws

pub returns-then-b-eq10-clause-stored : goal.returns-then-b-eq10-clause-stored
returns-then-b-eq10-clause-stored c = search feed_laws

pub returns-then-not-is_digit-clause-answer : goal.returns-then-not-is_digit-clause-answer
returns-then-not-is_digit-clause-answer c = search other_laws

pub returns-then-not-is_digit-clause-stored : goal.returns-then-not-is_digit-clause-stored
returns-then-not-is_digit-clause-stored c = search other_laws

pub returns-then-w-gt4294967295-clause-answer : goal.returns-then-w-gt4294967295-clause-answer
returns-then-w-gt4294967295-clause-answer c = search over_laws

pub returns-then-w-gt4294967295-clause-stored : goal.returns-then-w-gt4294967295-clause-stored
returns-then-w-gt4294967295-clause-stored c = search over_laws

pub loop-i-preserved : goal.loop-i-preserved
loop-i-preserved c =
    elim c.if-b-eq32.branch [
      | then-b-eq32 w ↦ rw (w.out-is, w.n-is, w.begun-is, w.v-is) (search line_laws)
      | else-b-eq32+else-not-is_digit+else-w-gt4294967295 w ↦ rw (w.out-is, w.n-is, w.begun-is, w.v-is) (search line_laws)
    ]

pub returns-clause-answer : goal.returns-clause-answer
returns-clause-answer c =
    end_answer _ _ _ _ _ _ _ _ c.loop-i.invariant.3 c.loop-i-test.false _ _ c.put-count-2.ensures.count c.put-count-2.ensures.stored (search rules) (search rules)
    _ _ c.tell-2.ensures (omega arith)

pub returns-clause-stored : goal.returns-clause-stored
returns-clause-stored c = search end_laws
