-- `label_from` meets its contract.
use Rattle.labels.proofs.Places.{place_laws}
use Rattle.labels.proofs.label_from.Statement.{statement}
use Rattle.labels.proofs.label_from.Tie as tie

pub label_from_spec : {M : Type 1} → statement M
label_from_spec =
    tie.close
    (tie.spec
    (λ c. search place_laws)
    (λ c. search place_laws)
    (λ c κs. search place_laws)
    (λ c. search place_laws)
    (λ c. search place_laws)
    (λ c. search place_laws)
    (λ c. search place_laws)
    (λ c. search place_laws))
