-- `is_full` meets its contract.
use Rattle.determinize.proofs.Attempts.{full_laws}
use Rattle.determinize.proofs.exploring.is_full.Statement.{statement}
use Rattle.determinize.proofs.exploring.is_full.Tie as tie

pub is_full_spec : {M : Type 1} → statement M
is_full_spec =
    tie.close
    (tie.spec (λ c. search full_laws) (λ c. search full_laws) (λ c. search full_laws))
