-- `copy_all` meets its contract.
use Rattle.labels.proofs.Whole.{all_laws}
use Rattle.labels.proofs.writing.copy_all.Statement.{statement}
use Rattle.labels.proofs.writing.copy_all.Tie as tie

pub copy_all_spec : {M : Type 1} → statement M
copy_all_spec =
    tie.close
    (tie.spec
    (λ c κs. search all_laws)
    (λ c. search all_laws)
    (λ c. search all_laws))
