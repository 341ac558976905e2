-- `ringmatch_epsilon_eliminate` meets its contract: the answer is passed on.
use Rattle.ringmatch.proofs.Replies.{mades}
use Rattle.ringmatch.proofs.ringmatch_epsilon_eliminate.Statement.{statement}
use Rattle.ringmatch.proofs.ringmatch_epsilon_eliminate.Tie as tie

pub ringmatch_epsilon_eliminate_spec : {M : Type 1} → statement M
ringmatch_epsilon_eliminate_spec =
    tie.close
    (tie.spec (λ c κs. search mades) (λ c κs. search mades) (λ c. search mades) (λ c. search mades) (λ c. search mades))
