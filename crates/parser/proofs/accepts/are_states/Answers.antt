-- `are_states` meets its contract: the table begins with the first name.
use Rattle.parser.proofs.Spelling.{begun_laws, begun_room, begun_few, begun_all}
use Rattle.parser.proofs.Tables.{added_table}
use Rattle.parser.proofs.accepts.are_states.Goals as goal

pub add_name-requires : goal.add_name-requires
add_name-requires c = (search begun_laws, c.requires.1)

pub returns-in_default : goal.returns-in_default
returns-in_default c = begun_room _ _ c.args.first _ _ c.add_name.ensures c.in_default.is _

pub rest_are_states-requires : goal.rest_are_states-requires
rest_are_states-requires c =
    let g = c.add_name.ensures in
    let e = c.in-Some.is in
    (added_table _ _ _ _ g _ e, begun_few _ _ c.args.first _ _ g _ e, c.requires.0)

pub returns : goal.returns
returns c = begun_all _ _ c.args.first _ _ c.add_name.ensures _ c.in-Some.is _ c.args.more.at _ c.rest_are_states.ensures
