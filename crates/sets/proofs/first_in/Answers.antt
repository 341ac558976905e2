use Rattle.sets.proofs.Scan.{scan_laws}
use Rattle.sets.proofs.first_in.Goals as goal

pub loop-j-preserved : goal.loop-j-preserved
loop-j-preserved c = search scan_laws

pub returns : goal.returns
returns c = search scan_laws

pub returns-then-w-ne0 : goal.returns-then-w-ne0
returns-then-w-ne0 c = search scan_laws
