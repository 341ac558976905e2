-- `put_filled` meets its contract: the holes that were found are merged with the run.
use Rattle.totality.proofs.Filling.{filled_laws}
use Rattle.totality.proofs.total.put_filled.Statement.{statement}
use Rattle.totality.proofs.total.put_filled.Tie as tie

pub put_filled_spec : {M : Type 1} → statement M
put_filled_spec =
    tie.close
    (tie.spec (λ c κs. search filled_laws) (λ c. search filled_laws) (λ c. search filled_laws) (λ c. search filled_laws)
    (λ c κs. search filled_laws) (λ c. search filled_laws) (λ c. search filled_laws) (λ c. search filled_laws))
