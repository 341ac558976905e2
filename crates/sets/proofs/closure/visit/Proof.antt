-- `visit` meets its contract.
use Rattle.sets.proofs.Rounds.{round_laws}
use Rattle.sets.proofs.closure.visit.Statement.{statement}
use Rattle.sets.proofs.closure.visit.Tie as tie

pub visit_spec : {M : Type 1} → statement M
visit_spec =
    tie.close
    (tie.spec (λ c κs. search round_laws) (λ c κs. search round_laws) (λ c. search round_laws) (λ c. search round_laws)
    (λ c. search round_laws) (λ c. search round_laws))
