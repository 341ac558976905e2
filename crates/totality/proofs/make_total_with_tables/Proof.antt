-- `make_total_with_tables` meets its contract: 21, 22, or the totalized sheet and its labels.
use Rattle.totality.proofs.Made.{total_made_laws}
use Rattle.totality.proofs.make_total_with_tables.Statement.{statement}
use Rattle.totality.proofs.make_total_with_tables.Tie as tie

pub make_total_with_tables_spec : {M : Type 1} → statement M
make_total_with_tables_spec =
    tie.close
    (tie.spec (λ c. search total_made_laws) (λ c. search total_made_laws) (λ c. search total_made_laws) (λ c. search total_made_laws)
    (λ c. search total_made_laws) (λ c. search total_made_laws) (λ c. search total_made_laws) (λ c κs. search total_made_laws)
    (λ c. search total_made_laws) (λ c. search total_made_laws) (λ c. search total_made_laws) (λ c. search total_made_laws)
    (λ c. search total_made_laws) (λ c κs. search total_made_laws) (λ c κs. search total_made_laws) (λ c. search total_made_laws)
    (λ c. search total_made_laws) (λ c. search total_made_laws) (λ c. search total_made_laws))
