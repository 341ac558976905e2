-- The stored bytes are the labels, and the call's outcome is that of the operation.
use Rattle.replay_all.proofs.Calls.{operation_other, operation_told}
use Rattle.replay_all.proofs.operations.operated.Goals as goal

pub returns-then-k-list : goal.returns-then-k-list
returns-then-k-list g c o p = operation_other o _ _ _ c.list-sheet.ensures c.list-list.ensures _ c.bytes-k.ensures.count c.if-k-list.true

pub returns : goal.returns
returns g c o p =
    operation_told o _ _ _ c.list-sheet.ensures c.list-list.ensures _ c.bytes-k.ensures.count c.if-k-list.false _ _ c.bytes-k.ensures.stored
    c.bytes-k.ensures.within.0 _ _ (p _ _ _ _ _ _ _ c.make-made.ensures) c.outcome.ensures
