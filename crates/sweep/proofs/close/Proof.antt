-- `close` meets its contract.
use Rattle.sweep.proofs.Passing.{note_laws}
use Rattle.sweep.proofs.close.Statement.{statement}
use Rattle.sweep.proofs.close.Tie as tie

pub close_spec : {M : Type 1} → statement M
close_spec =
    tie.close
    (tie.spec (λ c. search note_laws) (λ c. search note_laws) (λ c. search note_laws) (λ c. search note_laws) (λ c κs. search note_laws)
    (λ c. search note_laws) (λ c. search note_laws))
