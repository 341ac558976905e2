-- `is_found_long` meets its contract.
use Rattle.determinize.proofs.Attempts.{found_laws}
use Rattle.determinize.proofs.exploring.is_found_long.Statement.{statement}
use Rattle.determinize.proofs.exploring.is_found_long.Tie as tie

pub is_found_long_spec : {M : Type 1} → statement M
is_found_long_spec =
    tie.close
    (tie.spec (λ c. search found_laws) (λ c κs. search found_laws) (λ c. search found_laws))
