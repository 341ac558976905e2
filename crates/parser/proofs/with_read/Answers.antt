-- `with_read` meets its contract: the text is not closed, there are too many states, or their names are handed on.
use Rattle.parser.proofs.Reading.{open_8, laid, over_21, states_table, within_21}
use Rattle.parser.proofs.with_read.Goals as goal

pub returns-in_default : goal.returns-in_default
returns-in_default c = open_8 _ c.args.x _ _ _ _ c.requires.spelt.1 _ c.closing.ensures c.in_default.is _ _

pub over_states-requires : goal.over_states-requires
over_states-requires c = laid _ _ _ _ _ _ c.requires.spelt.1 _ c.closing.ensures _ _ _ c.in-Some.is c.requires.spelt.0

pub returns-in_default-added : goal.returns-in_default-added
returns-in_default-added c =
    over_21 _ c.args.x _ _ _ _ c.requires.spelt.1 _ c.closing.ensures _ _ _ c.in-Some.is c.in_default-added.is c.over_states.result c.over_states.ensures _ _

pub with_names-requires-clause-spelt_table : goal.with_names-requires-clause-spelt_table
with_names-requires-clause-spelt_table c =
    (states_table _ c.args.x _ _ _ _ c.requires.spelt.1 _ c.closing.ensures _ _ _ c.in-Some.is _ c.in-Some-added.is, laid _ _ _ _ _ _ c.requires.spelt.1 _ c.closing.ensures _ _ _ c.in-Some.is c.requires.spelt.0)

pub returns : goal.returns
returns c =
    within_21 _ c.args.x _ _ _ _ c.requires.spelt.1 _ c.closing.ensures _ _ _ c.in-Some.is _ c.in-Some-added.is _ _ _ c.with_names.ensures
