-- A sheet that passes the check is accepted, and the outputs have room.
use Rattle.std.proofs.Common.{sym}
use Rattle.output.proofs.Answers.{room_words, room_bytes}
use Rattle.sheets.proofs.Accepted.{accepted}
use Rattle.product.proofs.intersection.Goals as goal

pub intersect_second-requires : goal.intersect_second-requires
intersect_second-requires c =
    let o = c.args.out.now in
    let l = c.args.names.now in
    (accepted _ (sym c.in_ok-check.ensures), room_words o l _ c.lacks_room.ensures c.if-lacks_room.false, room_bytes o l _ c.lacks_room.ensures c.if-lacks_room.false)
