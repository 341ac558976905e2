-- `closure_kind` meets its contract: the row is the closure.
use Rattle.epsilon.proofs.Writing.{kind_laws}
use Rattle.epsilon.proofs.closure_kind.Statement.{statement}
use Rattle.epsilon.proofs.closure_kind.Tie as tie

pub closure_kind_spec : {M : Type 1} → statement M
closure_kind_spec =
    tie.close
    (tie.spec (λ c. search kind_laws) (λ c κs. search kind_laws) (λ c. search kind_laws) (λ c κs. search kind_laws)
    (λ c. search kind_laws))
