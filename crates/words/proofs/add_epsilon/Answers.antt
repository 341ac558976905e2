use Rattle.words.proofs.Epsilons.{epsilon_laws}
use Rattle.words.proofs.add_epsilon.Goals as goal

pub returns-then-r-ne0 : goal.returns-then-r-ne0
returns-then-r-ne0 c = search epsilon_laws

pub returns : goal.returns
returns c = search epsilon_laws
