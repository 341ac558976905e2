-- `pick_place` meets its contract.
use Rattle.output.proofs.Halving.{pick_laws}
use Rattle.output.proofs.finding.pick_place.Statement.{statement}
use Rattle.output.proofs.finding.pick_place.Tie as tie

pub pick_place_spec : {M : Type 1} → statement M
pick_place_spec =
    tie.close
    (tie.spec (λ c κs. search pick_laws) (λ c. search pick_laws) (λ c. search pick_laws))
