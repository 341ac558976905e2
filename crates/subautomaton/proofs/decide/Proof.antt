-- `decide` meets its contract: states, start, transitions.
use Rattle.subautomaton.proofs.Deciding.{decide_laws}
use Rattle.subautomaton.proofs.decide.Statement.{statement}
use Rattle.subautomaton.proofs.decide.Tie as tie

pub decide_spec : {M : Type 1} → statement M
decide_spec =
    tie.close
    (tie.spec (λ c κs. search decide_laws) (λ c. search decide_laws) (λ c. search decide_laws) (λ c. search decide_laws) (λ c. search decide_laws)
    (λ c. search decide_laws) (λ c. search decide_laws) (λ c. search decide_laws) (λ c. search decide_laws) (λ c. search decide_laws)
    (λ c. search decide_laws) (λ c. search decide_laws) (λ c. search decide_laws) (λ c. search decide_laws) (λ c. search decide_laws)
    (λ c. search decide_laws) (λ c. search decide_laws) (λ c. search decide_laws) (λ c κs. search decide_laws) (λ c. search decide_laws))
