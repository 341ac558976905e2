-- `last` meets its contract: the test is that of the definition.
use Rattle.lists.proofs.Tests.{tests}
use Rattle.replay_all.specs.Verdicts.{last_of}
use Rattle.replay_all.proofs.verdicts.last.Statement.{statement}
use Rattle.replay_all.proofs.verdicts.last.Tie as tie

pub last_spec : {M : Type 1} → statement M
unfolding last_of
last_spec =
    tie.close
    (tie.spec (λ c. search tests) (λ c. search tests) (λ c. search tests) (λ c. search tests) (λ c. search tests) (λ c. search tests))
