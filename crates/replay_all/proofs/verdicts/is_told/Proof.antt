-- `is_told` meets its contract: the tests are those of the definition.
use Rattle.lists.proofs.Tests.{tests}
use Rattle.replay_all.specs.Verdicts.{is_told}
use Rattle.replay_all.proofs.verdicts.is_told.Statement.{statement}
use Rattle.replay_all.proofs.verdicts.is_told.Tie as tie

pub is_told_spec : {M : Type 1} → statement M
unfolding is_told
is_told_spec =
    tie.close
    (tie.spec (λ c. search tests) (λ c. search tests) (λ c. search tests) (λ c. search tests) (λ c. search tests) (λ c. search tests)
    (λ c. search tests) (λ c. search tests) (λ c. search tests) (λ c. search tests))
