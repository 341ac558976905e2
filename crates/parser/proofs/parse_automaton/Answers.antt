-- `parse_automaton` meets its contract: 20, then 8, then what the text tells.
use Rattle.parser.proofs.Reading.{text_laws}
use Rattle.parser.proofs.parse_automaton.Goals as goal

pub returns-then-lacks_room : goal.returns-then-lacks_room
returns-then-lacks_room c = search text_laws

pub returns-in_default : goal.returns-in_default
returns-in_default c = search text_laws

pub from_start-requires-clause-spelt : goal.from_start-requires-clause-spelt
from_start-requires-clause-spelt c = search text_laws

pub returns : goal.returns
returns c = search text_laws
