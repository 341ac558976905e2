-- `least` meets its contract: the tests on the way are those of the definition.
use Rattle.lists.proofs.Tests.{tests}
use Rattle.words.specs.Simulation
use Rattle.words.proofs.least.Statement.{statement}
use Rattle.words.proofs.least.Tie as tie

pub least_spec : {M : Type 1} → statement M
unfolding Simulation.least
least_spec =
    tie.close
    (tie.spec (λ c. search tests) (λ c. search tests) (λ c. search tests) (λ c. search tests))
