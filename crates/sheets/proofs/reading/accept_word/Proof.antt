-- `accept_word` meets its contract: the accept words of a sheet begin at its fourth word.
use Rattle.sheets.proofs.Words.{accept_laws}
use Rattle.sheets.proofs.reading.accept_word.Statement.{statement}
use Rattle.sheets.proofs.reading.accept_word.Tie as tie

pub accept_word_spec : {M : Type 1} → statement M
accept_word_spec =
    tie.close
    (tie.spec (λ c. search accept_laws) (λ c. search accept_laws) (λ c. search accept_laws) (λ c. search accept_laws))
