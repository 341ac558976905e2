-- `make_total` meets its contract: the tables are those of the sheet.
use Rattle.nondeterminism.proofs.States.{inputs_laws}
use Rattle.totality.proofs.make_total.Statement.{statement}
use Rattle.totality.proofs.make_total.Tie as tie

pub make_total_spec : {M : Type 1} → statement M
make_total_spec =
    tie.close
    (tie.spec (λ c. search inputs_laws) (λ c κs. search inputs_laws) (λ c. search inputs_laws) (λ c. search inputs_laws)
    (λ c κs. search inputs_laws) (λ c. search inputs_laws) (λ c. search inputs_laws) (λ c. search inputs_laws))
