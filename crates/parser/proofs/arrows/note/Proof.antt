-- `note` meets its contract: the record is put, unless there are too many.
use Rattle.parser.proofs.Entering.{note_laws}
use Rattle.parser.proofs.arrows.note.Statement.{statement}
use Rattle.parser.proofs.arrows.note.Tie as tie

pub note_spec : {M : Type 1} → statement M
note_spec =
    tie.close
    (tie.spec (λ c. search note_laws) (λ c κs. search note_laws) (λ c. search note_laws) (λ c. search note_laws))
