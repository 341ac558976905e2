-- `put_total` meets its contract: the front, the records of the states, and the loop of the sink.
use Rattle.totality.proofs.Writing.{total_laws}
use Rattle.totality.proofs.total.put_total.Statement.{statement}
use Rattle.totality.proofs.total.put_total.Tie as tie

pub put_total_spec : {M : Type 1} → statement M
put_total_spec =
    tie.close
    (tie.spec (λ c. search total_laws) (λ c κs. search total_laws) (λ c κs. search total_laws) (λ c κs. search total_laws)
    (λ c. search total_laws) (λ c. search total_laws) (λ c. search total_laws))
