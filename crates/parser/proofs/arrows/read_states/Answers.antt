-- `read_states` meets its contract: the name of the initial state, then those of the transitions.
use Rattle.parser.proofs.ReadInvariant.{start_laws}
use Rattle.parser.proofs.arrows.read_states.Goals as goal

pub add_name-requires : goal.add_name-requires
add_name-requires c = search start_laws

pub returns-in_default : goal.returns-in_default
returns-in_default c = search start_laws

pub read_first-requires : goal.read_first-requires
read_first-requires c = search start_laws

pub returns : goal.returns
returns c = search start_laws
