-- `same` meets its contract.
use Rattle.sets.proofs.Steps.{word_laws}
use Rattle.sets.proofs.same.Statement.{statement}
use Rattle.sets.proofs.same.Tie as tie

pub same_spec : {M : Type 1} → statement M
same_spec =
    tie.close
    (tie.spec (λ c. search word_laws) (λ c. search word_laws) (λ c. search word_laws) (λ c. search word_laws) (λ c. search word_laws)
    (λ c. search word_laws) (λ c. search word_laws) (λ c. search word_laws) (λ c. search word_laws) (λ c. search word_laws)
    (λ c. search word_laws) (λ c. search word_laws) (λ c. search word_laws) (λ c. search word_laws) (λ c. search word_laws)
    (λ c. search word_laws) (λ c. search word_laws) (λ c. search word_laws) (λ c. search word_laws) (λ c. search word_laws))
