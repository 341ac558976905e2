-- By the laws of what is left.
use Rattle.lookups.proofs.Sheets.{sets_laws}
use Rattle.lookups.proofs.put_sets.Goals as goal

pub put_set-end-requires : goal.put_set-end-requires
put_set-end-requires c = search sets_laws

pub loop-k-preserved : goal.loop-k-preserved
loop-k-preserved c = search sets_laws

pub returns : goal.returns
returns c = search sets_laws
