-- `note_sink` meets its contract.
use Rattle.determinize.proofs.Placing.{sink_laws}
use Rattle.determinize.proofs.exploring.note_sink.Statement.{statement}
use Rattle.determinize.proofs.exploring.note_sink.Tie as tie

pub note_sink_spec : {M : Type 1} → statement M
note_sink_spec =
    tie.close
    (tie.spec (λ c κs. search sink_laws) (λ c. search sink_laws) (λ c. search sink_laws) (λ c. search sink_laws) (λ c. search sink_laws))
