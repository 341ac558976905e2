-- `ringmatch_intersection` meets its contract: the answer is passed on.
use Rattle.ringmatch.proofs.Replies.{mades}
use Rattle.ringmatch.proofs.ringmatch_intersection.Statement.{statement}
use Rattle.ringmatch.proofs.ringmatch_intersection.Tie as tie

pub ringmatch_intersection_spec : {M : Type 1} → statement M
ringmatch_intersection_spec =
    tie.close
    (tie.spec (λ c κs. search mades) (λ c κs. search mades) (λ c. search mades) (λ c. search mades) (λ c. search mades))
