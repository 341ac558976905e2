-- By the laws of the records that are put.
use Rattle.limits.proofs.Sheets.{put_laws}
use Rattle.limits.proofs.put_records.Goals as goal

pub loop-i-init : goal.loop-i-init
loop-i-init c = search put_laws

pub loop-i-preserved : goal.loop-i-preserved
loop-i-preserved c = search put_laws

pub returns-clause-stored : goal.returns-clause-stored
returns-clause-stored c = search put_laws
