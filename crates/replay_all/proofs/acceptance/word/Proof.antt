-- `word` meets its contract: the lists of the case are the sheet and the word.
use Rattle.replay_all.proofs.Decisions.{told_laws}
use Rattle.replay_all.proofs.acceptance.word.Statement.{statement}
use Rattle.replay_all.proofs.acceptance.word.Tie as tie

pub word_spec : {M : Type 1} → statement M
word_spec =
    tie.close
    (tie.spec (λ c κs. search told_laws) (λ c. search told_laws) (λ c κs. search told_laws) (λ c. search told_laws) (λ c. search told_laws)
    (λ c κs. search told_laws) (λ c κs. search told_laws) (λ c. search told_laws))
