-- `put_front` meets its contract: the parts stand one behind the other.
use borrow.Author.Rules.{rules}
use Rattle.lookups.proofs.Sheets.{front_laws}
use Rattle.lookups.proofs.put_front.Statement.{statement}
use Rattle.lookups.proofs.put_front.Tie as tie

pub put_front_spec : {M : Type 1} → statement M
put_front_spec = tie.close (tie.spec (λ c κs. search rules) (λ c κs. search rules) (λ c κs. search rules) (λ c. search rules) (λ c. search front_laws))
