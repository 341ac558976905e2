-- By the laws of a run's records.
use Rattle.epsilon.proofs.Gathering.{run_laws}
use Rattle.epsilon.proofs.add_run.Goals as goal

pub loop-r-init : goal.loop-r-init
loop-r-init c = search run_laws

pub returns-then-buf-f : goal.returns-then-buf-f
returns-then-buf-f c = search run_laws

pub loop-r-preserved : goal.loop-r-preserved
loop-r-preserved c = search run_laws

pub returns : goal.returns
returns c = search run_laws
