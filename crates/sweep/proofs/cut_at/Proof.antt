-- `cut_at` meets its contract.
use Rattle.sweep.proofs.Passing.{cut_laws}
use Rattle.sweep.proofs.cut_at.Statement.{statement}
use Rattle.sweep.proofs.cut_at.Tie as tie

pub cut_at_spec : {M : Type 1} → statement M
cut_at_spec =
    tie.close
    (tie.spec (λ c. search cut_laws) (λ c. search cut_laws) (λ c. search cut_laws) (λ c κs. search cut_laws) (λ c κs. search cut_laws)
    (λ c. search cut_laws) (λ c. search cut_laws))
