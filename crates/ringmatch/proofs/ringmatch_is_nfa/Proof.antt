-- `ringmatch_is_nfa` meets its contract: the answer is passed on.
use Rattle.ringmatch.proofs.Replies.{decisions}
use Rattle.ringmatch.proofs.ringmatch_is_nfa.Statement.{statement}
use Rattle.ringmatch.proofs.ringmatch_is_nfa.Tie as tie

pub ringmatch_is_nfa_spec : {M : Type 1} → statement M
ringmatch_is_nfa_spec =
    tie.close
    (tie.spec (λ c κs. search decisions) (λ c κs. search decisions) (λ c. search decisions))
