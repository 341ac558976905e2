-- `state_closures` meets its contract: the rows before the rounds are what one epsilon reaches.
use Rattle.words.proofs.Epsilons.{closure_laws}
use Rattle.words.proofs.state_closures.Statement.{statement}
use Rattle.words.proofs.state_closures.Tie as tie

pub state_closures_spec : {M : Type 1} → statement M
state_closures_spec =
    tie.close
    (tie.spec (λ c. search closure_laws) (λ c. search closure_laws) (λ c κs. search closure_laws) (λ c. search closure_laws)
    (λ c. search closure_laws) (λ c. search closure_laws) (λ c. search closure_laws) (λ c. search closure_laws)
    (λ c κs. search closure_laws) (λ c κs. search closure_laws) (λ c. search closure_laws) (λ c. search closure_laws))
