-- `is_row` meets its contract.
use Rattle.determinize.proofs.Swept.{is_row_laws}
use Rattle.determinize.proofs.sweeping.is_row.Statement.{statement}
use Rattle.determinize.proofs.sweeping.is_row.Tie as tie

pub is_row_spec : {M : Type 1} → statement M
is_row_spec =
    tie.close
    (tie.spec (λ c. search is_row_laws) (λ c κs. search is_row_laws) (λ c κs. search is_row_laws) (λ c. search is_row_laws))
