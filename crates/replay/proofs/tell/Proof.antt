-- `tell` meets its contract: the test is that of the definition.
use Rattle.lists.proofs.Tests.{tests}
use Rattle.replay.proofs.tell.Statement.{statement}
use Rattle.replay.proofs.tell.Tie as tie

pub tell_spec : {M : Type 1} → statement M
tell_spec =
    tie.close
    (tie.spec (λ c. search tests) (λ c. search tests))
