-- `with_one` meets its contract: two stores into fresh sets.
use Rattle.dsu_replay.proofs.Chains.{one_laws}
use Rattle.dsu_replay.proofs.with_one.Statement.{statement}
use Rattle.dsu_replay.proofs.with_one.Tie as tie

pub with_one_spec : {M : Type 1} → statement M
with_one_spec =
    tie.close
    (tie.spec (λ c κs. search one_laws) (λ c. search one_laws) (λ c. search one_laws) (λ c. search one_laws))
