-- `ringmatch_write_automaton` meets its contract: the answer is passed on.
use Rattle.ringmatch.proofs.Replies.{writes}
use Rattle.ringmatch.proofs.ringmatch_write_automaton.Statement.{statement}
use Rattle.ringmatch.proofs.ringmatch_write_automaton.Tie as tie

pub ringmatch_write_automaton_spec : {M : Type 1} → statement M
ringmatch_write_automaton_spec =
    tie.close
    (tie.spec (λ c κs. search writes) (λ c κs. search writes) (λ c. search writes) (λ c. search writes))
