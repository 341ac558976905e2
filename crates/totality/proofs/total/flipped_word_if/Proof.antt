-- `flipped_word_if` meets its contract: the tests are those of the definition.
use Rattle.totality.proofs.Writing.{word_laws}
use Rattle.totality.proofs.total.flipped_word_if.Statement.{statement}
use Rattle.totality.proofs.total.flipped_word_if.Tie as tie

pub flipped_word_if_spec : {M : Type 1} → statement M
flipped_word_if_spec =
    tie.close
    (tie.spec (λ c. search word_laws) (λ c. search word_laws) (λ c. search word_laws))
