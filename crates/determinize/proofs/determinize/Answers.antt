-- A sheet that passes the check is accepted, and what stands in its output is the answer.
use Rattle.output.proofs.Answers.{room_words}
use Rattle.sheets.proofs.Accepted.{check_accepted}
use Rattle.determinize.proofs.Made.{made_done}
use Rattle.determinize.proofs.determinize.Goals as goal

pub determinize_accepted-requires : goal.determinize_accepted-requires
determinize_accepted-requires c =
    (check_accepted _ _ c.check.ensures c.in_ok-check.was, room_words _ c.args.names.now _ c.lacks_room.ensures c.if-lacks_room.false)

pub returns : goal.returns
returns c =
    made_done _ _ _ _ c.lacks_room.ensures c.if-lacks_room.false _ c.check.ensures c.in_ok-check.was _ _ c.determinize_accepted.ensures _ c.in_ok-sheet.was _ _
    c.write_numbered-bytes.ensures
