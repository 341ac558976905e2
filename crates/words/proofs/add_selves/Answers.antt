use Rattle.words.proofs.Epsilons.{self_laws}
use Rattle.words.proofs.add_selves.Goals as goal

pub loop-p-preserved : goal.loop-p-preserved
loop-p-preserved c = search self_laws
