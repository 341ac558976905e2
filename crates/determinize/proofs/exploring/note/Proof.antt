-- `note` meets its contract: a note past the room is stored nowhere.
use Rattle.determinize.proofs.Placing.{note_laws}
use Rattle.determinize.proofs.exploring.note.Statement.{statement}
use Rattle.determinize.proofs.exploring.note.Tie as tie

pub note_spec : {M : Type 1} → statement M
note_spec =
    tie.close
    (tie.spec (λ c. search note_laws) (λ c κs. search note_laws) (λ c. search note_laws) (λ c. search note_laws) (λ c. search note_laws))
