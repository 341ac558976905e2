-- `ringmatch_determinize` meets its contract: the answer is passed on.
use Rattle.ringmatch.proofs.Replies.{mades}
use Rattle.ringmatch.proofs.ringmatch_determinize.Statement.{statement}
use Rattle.ringmatch.proofs.ringmatch_determinize.Tie as tie

pub ringmatch_determinize_spec : {M : Type 1} → statement M
ringmatch_determinize_spec =
    tie.close
    (tie.spec (λ c κs. search mades) (λ c κs. search mades) (λ c. search mades) (λ c. search mades) (λ c. search mades))
