-- `put_number` meets its contract.
use Rattle.labels.proofs.Putting.{entry_laws}
use Rattle.labels.proofs.writing.put_number.Statement.{statement}
use Rattle.labels.proofs.writing.put_number.Tie as tie

pub put_number_spec : {M : Type 1} → statement M
put_number_spec =
    tie.close
    (tie.spec
    (λ c κs. search entry_laws)
    (λ c κs. search entry_laws)
    (λ c. search entry_laws)
    (λ c. search entry_laws))
