-- By the laws of writing accept words.
use Rattle.epsilon.proofs.Writing.{accepts_laws}
use Rattle.epsilon.proofs.put_accepts.Goals as goal

pub loop-p-init : goal.loop-p-init
loop-p-init c = search accepts_laws

pub put-end-requires : goal.put-end-requires
put-end-requires c = search accepts_laws

pub loop-p-preserved : goal.loop-p-preserved
loop-p-preserved c = search accepts_laws
