-- `accept_word` meets its contract: the copied row is the set.
use Rattle.determinize.proofs.Sections.{accept_laws}
use Rattle.determinize.proofs.writing.accept_word.Statement.{statement}
use Rattle.determinize.proofs.writing.accept_word.Tie as tie

pub accept_word_spec : {M : Type 1} → statement M
accept_word_spec =
    tie.close
    (tie.spec (λ c. search accept_laws) (λ c κs. search accept_laws) (λ c. search accept_laws) (λ c κs. search accept_laws)
    (λ c. search accept_laws))
