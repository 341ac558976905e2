-- `answered` meets its contract: the number of the refusal tells malformed text from other refusals.
use Rattle.replay_all.proofs.Decisions.{accepted_laws}
use Rattle.replay_all.proofs.acceptance.answered.Statement.{statement}
use Rattle.replay_all.proofs.acceptance.answered.Tie as tie

pub answered_spec : {M : Type 1} → statement M
answered_spec =
    tie.close
    (tie.spec (λ c. search accepted_laws) (λ c κs. search accepted_laws) (λ c. search accepted_laws) (λ c κs. search accepted_laws)
    (λ c κs. search accepted_laws) (λ c. search accepted_laws) (λ c. search accepted_laws) (λ c. search accepted_laws))
