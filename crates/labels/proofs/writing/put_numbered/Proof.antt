-- `put_numbered` meets its contract.
use Rattle.labels.proofs.Putting.{entry_laws}
use Rattle.labels.proofs.writing.put_numbered.Statement.{statement}
use Rattle.labels.proofs.writing.put_numbered.Tie as tie

pub put_numbered_spec : {M : Type 1} → statement M
put_numbered_spec =
    tie.close
    (tie.spec
    (λ c. search entry_laws)
    (λ c κs. search entry_laws)
    (λ c κs. search entry_laws)
    (λ c. search entry_laws)
    (λ c. search entry_laws))
