-- `counted` meets its contract: one count grows by one.
use Rattle.replay.proofs.Counting.{tally_laws}
use Rattle.replay.proofs.Tally.counted.Statement.{statement}
use Rattle.replay.proofs.Tally.counted.Tie as tie

pub counted_spec : {M : Type 1} → statement M
counted_spec =
    tie.close
    (tie.spec (λ c. search tally_laws) (λ c. search tally_laws) (λ c. search tally_laws) (λ c. search tally_laws)
    (λ c κs. search tally_laws) (λ c. search tally_laws) (λ c κs. search tally_laws) (λ c κs. search tally_laws)
    (λ c. search tally_laws))
