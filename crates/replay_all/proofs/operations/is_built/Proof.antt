-- `is_built` meets its contract: the tests are those of the definition.
use Rattle.lists.proofs.Tests.{tests}
use Rattle.replay_all.specs.Outcomes.{is_built}
use Rattle.replay_all.proofs.operations.is_built.Statement.{statement}
use Rattle.replay_all.proofs.operations.is_built.Tie as tie

pub is_built_spec : {M : Type 1} → statement M
unfolding is_built
is_built_spec =
    tie.close
    (tie.spec (λ c. search tests) (λ c. search tests) (λ c. search tests) (λ c. search tests) (λ c. search tests) (λ c κs. search tests)
    (λ c. search tests))
