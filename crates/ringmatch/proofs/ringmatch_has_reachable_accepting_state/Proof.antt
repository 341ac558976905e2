-- `ringmatch_has_reachable_accepting_state` meets its contract: the answer is passed on.
use Rattle.ringmatch.proofs.Replies.{decisions}
use Rattle.ringmatch.proofs.ringmatch_has_reachable_accepting_state.Statement.{statement}
use Rattle.ringmatch.proofs.ringmatch_has_reachable_accepting_state.Tie as tie

pub ringmatch_has_reachable_accepting_state_spec : {M : Type 1} → statement M
ringmatch_has_reachable_accepting_state_spec =
    tie.close
    (tie.spec (λ c κs. search decisions) (λ c κs. search decisions) (λ c. search decisions))
