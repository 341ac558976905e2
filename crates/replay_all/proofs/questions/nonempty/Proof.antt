-- `nonempty` meets its contract: the list of the case is the sheet.
use Rattle.replay_all.proofs.Decisions.{told_laws}
use Rattle.replay_all.proofs.questions.nonempty.Statement.{statement}
use Rattle.replay_all.proofs.questions.nonempty.Tie as tie

pub nonempty_spec : {M : Type 1} → statement M
nonempty_spec =
    tie.close
    (tie.spec (λ c κs. search told_laws) (λ c. search told_laws) (λ c κs. search told_laws) (λ c κs. search told_laws) (λ c. search told_laws))
