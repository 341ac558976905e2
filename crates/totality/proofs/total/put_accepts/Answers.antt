-- One word more is written.
use Rattle.totality.proofs.Writing.{accepts_laws}
use Rattle.totality.proofs.total.put_accepts.Goals as goal

pub loop-word-preserved : goal.loop-word-preserved
loop-word-preserved c = search accepts_laws
