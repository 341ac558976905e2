-- `number` meets its contract: three digits.
use Rattle.dsu_replay.proofs.Runs.{line_laws}
use Rattle.dsu_replay.proofs.number.Statement.{statement}
use Rattle.dsu_replay.proofs.number.Tie as tie

pub number_spec : {M : Type 1} → statement M
number_spec =
    tie.close
    (tie.spec (λ c. search line_laws) (λ c κs. search line_laws) (λ c. search line_laws) (λ c. search line_laws) (λ c. search line_laws)
    (λ c κs. search line_laws) (λ c. search line_laws) (λ c. search line_laws) (λ c. search line_laws) (λ c. search line_laws)
    (λ c κs. search line_laws) (λ c. search line_laws) (λ c. search line_laws))
