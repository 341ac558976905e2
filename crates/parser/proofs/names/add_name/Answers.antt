-- `add_name` meets its contract: the table answers, and each of its names is a label.
use Rattle.parser.proofs.Tables.{add_laws}
use Rattle.parser.proofs.names.add_name.Goals as goal

pub returns : goal.returns
returns c = search add_laws
