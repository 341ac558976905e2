-- The outputs have room, and a sheet that passes the check is accepted.
use Rattle.epsilon.proofs.Answers.{sheet_ready}
use Rattle.epsilon.proofs.epsilon_eliminate.Goals as goal

pub eliminate_checked-requires : goal.eliminate_checked-requires
eliminate_checked-requires c = sheet_ready _ _ _ _ c.lacks_room.ensures c.if-lacks_room.false _ c.check.ensures c.in_ok-check.was
