-- `is_last` meets its contract: the tests are those of the definition.
use Rattle.lists.proofs.Tests.{tests}
use Rattle.replay.specs.Cases.{is_last}
use Rattle.replay.proofs.is_last.Statement.{statement}
use Rattle.replay.proofs.is_last.Tie as tie

pub is_last_spec : {M : Type 1} → statement M
unfolding is_last
is_last_spec =
    tie.close
    (tie.spec (λ c. search tests) (λ c. search tests) (λ c. search tests) (λ c. search tests) (λ c. search tests) (λ c. search tests))
