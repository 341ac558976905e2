-- `closures_of` meets its contract: the table is fresh.
use Rattle.replay_all.proofs.Rows.{closure_laws}
use Rattle.replay_all.proofs.Sheets.{fresh_laws}
use Rattle.replay_all.proofs.closures.closures_of.Statement.{statement}
use Rattle.replay_all.proofs.closures.closures_of.Tie as tie

pub closures_of_spec : {M : Type 1} → statement M
closures_of_spec =
    tie.close
    (tie.spec (λ c. search fresh_laws) (λ c κs. search fresh_laws) (λ c. search fresh_laws) (λ c. search fresh_laws) (λ c. search fresh_laws)
    (λ c. search fresh_laws) (λ c κs. search fresh_laws) (λ c. search closure_laws))
