-- `copy_with_sink` meets its contract.
use Rattle.labels.proofs.Whole.{sink_laws}
use Rattle.labels.proofs.writing.copy_with_sink.Statement.{statement}
use Rattle.labels.proofs.writing.copy_with_sink.Tie as tie

pub copy_with_sink_spec : {M : Type 1} → statement M
copy_with_sink_spec =
    tie.close
    (tie.spec
    (λ c. search sink_laws)
    (λ c κs. search sink_laws)
    (λ c. search sink_laws)
    (λ c. search sink_laws)
    (λ c. search sink_laws)
    (λ c κs. search sink_laws)
    (λ c κs. search sink_laws)
    (λ c. search sink_laws)
    (λ c. search sink_laws))
