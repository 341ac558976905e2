-- `compare_texts` meets its contract: the first text is refused, or it has a sheet to compare.
use Rattle.verdict_line.proofs.Judging.{text_laws}
use Rattle.verdict_line.proofs.compare_texts.Goals as goal

pub compare_second-requires : goal.compare_second-requires
compare_second-requires c = search text_laws

pub returns-in-Ok : goal.returns-in-Ok
returns-in-Ok c = search text_laws

pub returns-in-Err : goal.returns-in-Err
returns-in-Err c = search text_laws
