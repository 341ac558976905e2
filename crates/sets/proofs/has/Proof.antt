-- `has` meets its contract.
use Rattle.sets.proofs.Steps.{word_laws}
use Rattle.sets.proofs.has.Statement.{statement}
use Rattle.sets.proofs.has.Tie as tie

pub has_spec : {M : Type 1} → statement M
has_spec =
    tie.close
    (tie.spec (λ c. search word_laws) (λ c. search word_laws) (λ c. search word_laws) (λ c. search word_laws) (λ c. search word_laws)
    (λ c. search word_laws))
