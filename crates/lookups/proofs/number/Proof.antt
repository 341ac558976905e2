-- `number` meets its contract: nothing wraps.
use borrow.Author.Rules.{rules}
use Rattle.lookups.proofs.Sheets.{number_laws}
use Rattle.lookups.proofs.number.Statement.{statement}
use Rattle.lookups.proofs.number.Tie as tie

pub number_spec : {M : Type 1} → statement M
number_spec =
    tie.close
    (tie.spec (λ c. search rules) (λ c. search rules) (λ c. search rules) (λ c. search rules) (λ c. search rules)
    (λ c. search number_laws) (λ c. search number_laws) (λ c. search number_laws))
