-- `first_target` meets its contract.
use Rattle.emptiness.proofs.Targets.{target_laws}
use Rattle.emptiness.proofs.first_target.Statement.{statement}
use Rattle.emptiness.proofs.first_target.Tie as tie

pub first_target_spec : {M : Type 1} → statement M
first_target_spec =
    tie.close
    (tie.spec (λ c. search target_laws) (λ c. search target_laws) (λ c. search target_laws) (λ c. search target_laws) (λ c. search target_laws)
    (λ c. search target_laws) (λ c. search target_laws) (λ c. search target_laws) (λ c. search target_laws) (λ c. search target_laws)
    (λ c. search target_laws) (λ c. search target_laws) (λ c. search target_laws))
