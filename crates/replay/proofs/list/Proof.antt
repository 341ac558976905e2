-- `list` meets its contract: the tests are those of the definition.
use Rattle.replay.proofs.Cases.{list_laws}
use Rattle.replay.proofs.list.Statement.{statement}
use Rattle.replay.proofs.list.Tie as tie

pub list_spec : {M : Type 1} → statement M
list_spec =
    tie.close
    (tie.spec (λ c. search list_laws) (λ c. search list_laws) (λ c. search list_laws) (λ c. search list_laws) (λ c. search list_laws)
    (λ c. search list_laws) (λ c. search list_laws) (λ c. search list_laws) (λ c. search list_laws) (λ c. search list_laws) (λ c. search list_laws)
    (λ c. search list_laws) (λ c. search list_laws) (λ c. search list_laws) (λ c. search list_laws))
