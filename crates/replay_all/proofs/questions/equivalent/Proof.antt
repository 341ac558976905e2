-- `equivalent` meets its contract: the lists of the case are the sheets.
use Rattle.replay_all.proofs.Decisions.{told_laws}
use Rattle.replay_all.proofs.questions.equivalent.Statement.{statement}
use Rattle.replay_all.proofs.questions.equivalent.Tie as tie

pub equivalent_spec : {M : Type 1} → statement M
equivalent_spec =
    tie.close
    (tie.spec (λ c κs. search told_laws) (λ c. search told_laws) (λ c κs. search told_laws) (λ c. search told_laws) (λ c. search told_laws)
    (λ c κs. search told_laws) (λ c κs. search told_laws) (λ c. search told_laws))
