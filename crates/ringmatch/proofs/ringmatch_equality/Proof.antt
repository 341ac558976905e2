-- `ringmatch_equality` meets its contract: the verdict is passed on.
use Rattle.ringmatch.proofs.Replies.{verdicts}
use Rattle.ringmatch.proofs.ringmatch_equality.Statement.{statement}
use Rattle.ringmatch.proofs.ringmatch_equality.Tie as tie

pub ringmatch_equality_spec : {M : Type 1} → statement M
ringmatch_equality_spec =
    tie.close
    (tie.spec (λ c κs. search verdicts) (λ c κs. search verdicts) (λ c. search verdicts) (λ c. search verdicts))
