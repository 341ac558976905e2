-- `insert` meets its contract.
use Rattle.sets.proofs.Steps.{word_laws}
use Rattle.sets.proofs.insert.Statement.{statement}
use Rattle.sets.proofs.insert.Tie as tie

pub insert_spec : {M : Type 1} → statement M
insert_spec =
    tie.close
    (tie.spec (λ c. search word_laws) (λ c. search word_laws) (λ c. search word_laws) (λ c. search word_laws) (λ c. search word_laws)
    (λ c. search word_laws) (λ c. search word_laws) (λ c. search word_laws) (λ c. search word_laws))
