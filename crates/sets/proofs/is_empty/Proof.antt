-- `is_empty` meets its contract.
use Rattle.sets.proofs.Steps.{word_laws}
use Rattle.sets.proofs.is_empty.Statement.{statement}
use Rattle.sets.proofs.is_empty.Tie as tie

pub is_empty_spec : {M : Type 1} → statement M
is_empty_spec =
    tie.close
    (tie.spec (λ c. search word_laws) (λ c. search word_laws) (λ c. search word_laws) (λ c. search word_laws) (λ c. search word_laws))
