-- `open` meets its contract.
use Rattle.sweep.proofs.Passing.{note_laws}
use Rattle.sweep.proofs.open.Statement.{statement}
use Rattle.sweep.proofs.open.Tie as tie

pub open_spec : {M : Type 1} → statement M
open_spec =
    tie.close
    (tie.spec (λ c. search note_laws) (λ c. search note_laws) (λ c. search note_laws) (λ c. search note_laws) (λ c. search note_laws)
    (λ c. search note_laws) (λ c. search note_laws) (λ c κs. search note_laws) (λ c. search note_laws) (λ c. search note_laws) (λ c. search note_laws)
    (λ c. search note_laws) (λ c. search note_laws))
