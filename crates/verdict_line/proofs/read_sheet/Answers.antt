-- `read_sheet` meets its contract: both outputs have room.
use Rattle.verdict_line.proofs.Reading.{read_laws}
use Rattle.verdict_line.proofs.read_sheet.Goals as goal

pub returns : goal.returns
returns c = search read_laws
