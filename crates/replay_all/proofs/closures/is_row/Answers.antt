-- A member is the next of those that are listed, or the lists differ.
use Rattle.std.proofs.Common.{arith, refl, rules}
use Rattle.replay_all.proofs.Rows.{row_begun, row_short, row_other, row_next, row_skip, row_ended}
use Rattle.replay_all.proofs.closures.is_row.Goals as goal
use Rattle.replay_all.proofs.closures.is_row.Goals.{then-has+else-members-i+else-members-i-2, else-has}

pub loop-q-init : goal.loop-q-init
loop-q-init c = (search rules, search row_begun)

pub returns-then-members-i : goal.returns-then-members-i
returns-then-members-i c = row_short _ _ _ _ _ c.loop-q.invariant.1 _ c.has.ensures c.if-has.true c.if-members-i.true

pub returns-then-members-i-2 : goal.returns-then-members-i-2
returns-then-members-i-2 c = row_other _ _ _ _ _ c.loop-q.invariant.1 _ c.has.ensures c.if-has.true c.if-members-i.false _ refl c.if-members-i-2.true

pub loop-q-preserved : goal.loop-q-preserved
loop-q-preserved c =
    elim c.if-has.branch [
      | then-has+else-members-i+else-members-i-2 w ↦
          rw w.i-is (omega arith, row_next _ _ _ _ _ c.loop-q.invariant.1 _ c.has.ensures w.if-has.true w.if-members-i.false _ refl w.if-members-i-2.false)
      | else-has w ↦ rw w.i-is (search rules, row_skip _ _ _ c.loop-q.i _ c.loop-q.invariant.1 _ c.has.ensures w.if-has.false)
    ]

pub returns : goal.returns
returns c = search row_ended
