-- `order_kind` meets its contract.
use Rattle.sweep.proofs.Putting.{order_laws}
use Rattle.sweep.proofs.ordering.order_kind.Statement.{statement}
use Rattle.sweep.proofs.ordering.order_kind.Tie as tie

pub order_kind_spec : {M : Type 1} → statement M
order_kind_spec =
    tie.close
    (tie.spec (λ c. search order_laws) (λ c κs. search order_laws) (λ c. search order_laws) (λ c κs. search order_laws) (λ c. search order_laws)
    (λ c. search order_laws) (λ c. search order_laws) (λ c κs. search order_laws) (λ c. search order_laws) (λ c. search order_laws) (λ c. search order_laws))
