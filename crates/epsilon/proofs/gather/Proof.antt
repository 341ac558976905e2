-- `gather` meets its contract: what is gathered is put in order.
use Rattle.epsilon.proofs.Writing.{gather_laws}
use Rattle.epsilon.proofs.gather.Statement.{statement}
use Rattle.epsilon.proofs.gather.Tie as tie

pub gather_spec : {M : Type 1} → statement M
gather_spec =
    tie.close
    (tie.spec (λ c κs. search gather_laws) (λ c κs. search gather_laws) (λ c. search gather_laws) (λ c. search gather_laws) (λ c. search gather_laws))
