use Rattle.sets.proofs.Rounds.{round_laws}
use Rattle.sets.proofs.closure.round.Goals as goal

pub loop-p-init : goal.loop-p-init
loop-p-init c = search round_laws

pub loop-p-preserved : goal.loop-p-preserved
loop-p-preserved c = search round_laws
