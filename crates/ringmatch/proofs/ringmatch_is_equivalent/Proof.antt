-- `ringmatch_is_equivalent` meets its contract: the answer is passed on.
use Rattle.ringmatch.proofs.Replies.{decisions}
use Rattle.ringmatch.proofs.ringmatch_is_equivalent.Statement.{statement}
use Rattle.ringmatch.proofs.ringmatch_is_equivalent.Tie as tie

pub ringmatch_is_equivalent_spec : {M : Type 1} → statement M
ringmatch_is_equivalent_spec =
    tie.close
    (tie.spec (λ c κs. search decisions) (λ c κs. search decisions) (λ c. search decisions))
