-- By the laws of what is left.
use Rattle.lookups.proofs.Sheets.{set_laws}
use Rattle.lookups.proofs.put_set.Goals as goal

pub loop-q-init : goal.loop-q-init
loop-q-init c = search set_laws

pub put_state-end-requires : goal.put_state-end-requires
put_state-end-requires c = search set_laws

pub loop-q-preserved : goal.loop-q-preserved
loop-q-preserved c = search set_laws

pub returns : goal.returns
returns c = search set_laws
