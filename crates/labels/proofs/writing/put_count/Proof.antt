-- `put_count` meets its contract.
use Rattle.labels.proofs.Putting.{put_laws}
use Rattle.labels.proofs.writing.put_count.Statement.{statement}
use Rattle.labels.proofs.writing.put_count.Tie as tie

pub put_count_spec : {M : Type 1} → statement M
put_count_spec =
    tie.close
    (tie.spec
    (λ c. search put_laws)
    (λ c κs. search put_laws)
    (λ c. search put_laws)
    (λ c κs. search put_laws)
    (λ c. search put_laws)
    (λ c. search put_laws))
