-- The first word in which they differ decides.
use Rattle.std.proofs.Common.{refl, arith}
use Rattle.automata.proofs.Ordered.{less_ended, less_differs, less_next}
use Rattle.sheets.proofs.is_less.Goals as goal

pub loop-i-init : goal.loop-i-init
loop-i-init c = refl

pub returns-then-a-i : goal.returns-then-a-i
returns-then-a-i c = less_differs c.args.a.now c.args.b.now c.loop-i.i c.loop-i.invariant (omega (arith, c.told-b, c.loop-i-test.true)) (omega (arith, c.told-a, c.loop-i-test.true)) c.if-a-i.true

pub loop-i-preserved : goal.loop-i-preserved
loop-i-preserved c = less_next c.args.a.now c.args.b.now c.loop-i.i c.loop-i.invariant (omega (arith, c.told-b, c.loop-i-test.true)) (omega (arith, c.told-a, c.loop-i-test.true)) c.if-a-i.false

pub returns : goal.returns
returns c = less_ended c.args.a.now c.args.b.now c.loop-i.i c.loop-i.invariant (omega (arith, c.told-b, c.loop-i-test.false))
