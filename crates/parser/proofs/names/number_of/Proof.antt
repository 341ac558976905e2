-- `number_of` meets its contract: the name is sought in the table.
use Rattle.parser.proofs.Tables.{number_laws}
use Rattle.parser.proofs.names.number_of.Statement.{statement}
use Rattle.parser.proofs.names.number_of.Tie as tie

pub number_of_spec : {M : Type 1} → statement M
number_of_spec =
    tie.close
    (tie.spec (λ c. search number_laws) (λ c. search number_laws) (λ c. search number_laws) (λ c κs. search number_laws) (λ c. search number_laws)
    (λ c. search number_laws))
