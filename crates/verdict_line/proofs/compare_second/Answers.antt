-- `compare_second` meets its contract: the second text is refused, or it has a sheet to compare.
use Rattle.verdict_line.proofs.Judging.{text_laws}
use Rattle.verdict_line.proofs.compare_second.Goals as goal

pub returns-in-Ok : goal.returns-in-Ok
returns-in-Ok c = search text_laws

pub returns-in-Err : goal.returns-in-Err
returns-in-Err c = search text_laws
