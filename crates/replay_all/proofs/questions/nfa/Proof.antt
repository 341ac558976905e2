-- `nfa` meets its contract: the list of the case is the sheet.
use Rattle.replay_all.proofs.Decisions.{told_laws}
use Rattle.replay_all.proofs.questions.nfa.Statement.{statement}
use Rattle.replay_all.proofs.questions.nfa.Tie as tie

pub nfa_spec : {M : Type 1} → statement M
nfa_spec =
    tie.close
    (tie.spec (λ c κs. search told_laws) (λ c. search told_laws) (λ c κs. search told_laws) (λ c κs. search told_laws) (λ c. search told_laws))
