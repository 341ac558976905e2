-- `is_known` meets its contract: the record is the one found, or none.
use Rattle.output.proofs.Halving.{known_laws}
use Rattle.output.proofs.finding.is_known.Statement.{statement}
use Rattle.output.proofs.finding.is_known.Tie as tie

pub is_known_spec : {M : Type 1} → statement M
is_known_spec =
    tie.close
    (tie.spec (λ c. search known_laws) (λ c κs. search known_laws) (λ c κs. search known_laws) (λ c. search known_laws))
