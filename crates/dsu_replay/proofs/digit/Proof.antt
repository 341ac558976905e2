-- `digit` meets its contract: the test is that of the definition.
use Rattle.dsu_replay.proofs.Runs.{line_laws}
use Rattle.dsu_replay.proofs.digit.Statement.{statement}
use Rattle.dsu_replay.proofs.digit.Tie as tie

pub digit_spec : {M : Type 1} → statement M
digit_spec =
    tie.close
    (tie.spec (λ c κs. search line_laws) (λ c. search line_laws) (λ c κs. search line_laws) (λ c. search line_laws))
