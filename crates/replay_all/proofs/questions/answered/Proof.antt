-- `answered` meets its contract: a yes is 1, a no 0.
use Rattle.replay_all.proofs.Decisions.{decided_laws}
use Rattle.replay_all.proofs.questions.answered.Statement.{statement}
use Rattle.replay_all.proofs.questions.answered.Tie as tie

pub answered_spec : {M : Type 1} → statement M
answered_spec =
    tie.close
    (tie.spec (λ c. search decided_laws) (λ c κs. search decided_laws) (λ c. search decided_laws) (λ c κs. search decided_laws) (λ c. search decided_laws)
    (λ c. search decided_laws) (λ c. search decided_laws))
