-- `state_covers` meets its contract: the records of the state are those of its run.
use Rattle.subautomaton.proofs.Matching.{from_laws}
use Rattle.subautomaton.proofs.state_covers.Statement.{statement}
use Rattle.subautomaton.proofs.state_covers.Tie as tie

pub state_covers_spec : {M : Type 1} → statement M
state_covers_spec =
    tie.close
    (tie.spec (λ c. search from_laws) (λ c. search from_laws) (λ c. search from_laws) (λ c κs. search from_laws) (λ c κs. search from_laws)
    (λ c. search from_laws))
