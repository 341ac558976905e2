-- `tells_apart` meets its contract: the tests are those of the definition.
use borrow.Author.Rules.{rules}
use Rattle.replay_all.proofs.Judging.{apart_laws}
use Rattle.replay_all.proofs.verdicts.tells_apart.Statement.{statement}
use Rattle.replay_all.proofs.verdicts.tells_apart.Tie as tie

pub tells_apart_spec : {M : Type 1} → statement M
tells_apart_spec =
    tie.close
    (tie.spec (λ c κs. search rules) (λ c κs. search rules) (λ c. search apart_laws) (λ c κs. search rules) (λ c. search apart_laws))
