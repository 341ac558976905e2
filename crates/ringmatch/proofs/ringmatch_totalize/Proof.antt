-- `ringmatch_totalize` meets its contract: the answer is passed on.
use Rattle.ringmatch.proofs.Replies.{mades}
use Rattle.ringmatch.proofs.ringmatch_totalize.Statement.{statement}
use Rattle.ringmatch.proofs.ringmatch_totalize.Tie as tie

pub ringmatch_totalize_spec : {M : Type 1} → statement M
ringmatch_totalize_spec =
    tie.close
    (tie.spec (λ c κs. search mades) (λ c κs. search mades) (λ c. search mades) (λ c. search mades) (λ c. search mades))
