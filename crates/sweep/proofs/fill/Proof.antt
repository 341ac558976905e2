-- `fill` meets its contract.
use Rattle.sweep.proofs.Passing.{note_laws}
use Rattle.sweep.proofs.fill.Statement.{statement}
use Rattle.sweep.proofs.fill.Tie as tie

pub fill_spec : {M : Type 1} → statement M
fill_spec =
    tie.close
    (tie.spec (λ c. search note_laws) (λ c κs. search note_laws) (λ c. search note_laws) (λ c κs. search note_laws) (λ c. search note_laws)
    (λ c. search note_laws))
