-- `ringmatch_complement` meets its contract: the answer is passed on.
use Rattle.ringmatch.proofs.Replies.{mades}
use Rattle.ringmatch.proofs.ringmatch_complement.Statement.{statement}
use Rattle.ringmatch.proofs.ringmatch_complement.Tie as tie

pub ringmatch_complement_spec : {M : Type 1} → statement M
ringmatch_complement_spec =
    tie.close
    (tie.spec (λ c κs. search mades) (λ c κs. search mades) (λ c. search mades) (λ c. search mades) (λ c. search mades))
