-- `put_copy` meets its contract.
use Rattle.labels.proofs.Putting.{put_laws}
use Rattle.labels.proofs.writing.put_copy.Statement.{statement}
use Rattle.labels.proofs.writing.put_copy.Tie as tie

pub put_copy_spec : {M : Type 1} → statement M
put_copy_spec =
    tie.close
    (tie.spec
    (λ c. search put_laws)
    (λ c κs. search put_laws)
    (λ c κs. search put_laws)
    (λ c. search put_laws)
    (λ c. search put_laws))
