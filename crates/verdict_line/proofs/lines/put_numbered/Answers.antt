-- `put_numbered` meets its contract: the parts stand one behind the other.
use Rattle.verdict_line.proofs.Printing.{numbered_laws}
use Rattle.verdict_line.proofs.lines.put_numbered.Goals as goal

pub put_decimal-behind-requires : goal.put_decimal-behind-requires
put_decimal-behind-requires c = search numbered_laws

pub put-requires : goal.put-requires
put-requires c = search numbered_laws

pub returns : goal.returns
returns c = (search numbered_laws, search numbered_laws)
