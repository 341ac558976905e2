-- `counted` meets its contract: one count grows.
use Rattle.dsu_replay.proofs.Runs.{count_laws}
use Rattle.dsu_replay.proofs.counted.Statement.{statement}
use Rattle.dsu_replay.proofs.counted.Tie as tie

pub counted_spec : {M : Type 1} → statement M
counted_spec =
    tie.close
    (tie.spec (λ c κs. search count_laws) (λ c κs. search count_laws) (λ c. search count_laws) (λ c. search count_laws))
