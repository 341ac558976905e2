-- `begin` meets its contract: the tables are those of the sheet.
use Rattle.words.proofs.Reading.{begin_laws}
use Rattle.words.proofs.begin.Statement.{statement}
use Rattle.words.proofs.begin.Tie as tie

pub begin_spec : {M : Type 1} → statement M
begin_spec =
    tie.close
    (tie.spec (λ c κs. search begin_laws) (λ c κs. search begin_laws) (λ c. search begin_laws) (λ c. search begin_laws)
    (λ c κs. search begin_laws) (λ c. search begin_laws) (λ c. search begin_laws) (λ c. search begin_laws) (λ c. search begin_laws))
