-- `colliding` meets its contract: the records behind the front make the sheet.
use borrow.Author.Rules.{rules}
use Rattle.lookups.proofs.Sheets.{colliding_laws}
use Rattle.lookups.proofs.colliding.Statement.{statement}
use Rattle.lookups.proofs.colliding.Tie as tie

pub colliding_spec : {M : Type 1} → statement M
colliding_spec = tie.close (tie.spec (λ c. search rules) (λ c κs. search rules) (λ c κs. search colliding_laws) (λ c. search rules) (λ c. search colliding_laws))
