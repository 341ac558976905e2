-- `chain` meets its contract: the links behind the front make the sheet.
use borrow.Author.Rules.{rules}
use Rattle.lookups.proofs.Sheets.{chain_laws}
use Rattle.lookups.proofs.chain.Statement.{statement}
use Rattle.lookups.proofs.chain.Tie as tie

pub chain_spec : {M : Type 1} → statement M
chain_spec = tie.close (tie.spec (λ c. search rules) (λ c κs. search rules) (λ c κs. search rules) (λ c. search rules) (λ c. search chain_laws))
