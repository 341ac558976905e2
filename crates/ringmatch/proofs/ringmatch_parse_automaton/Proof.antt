-- `ringmatch_parse_automaton` meets its contract: the answer is passed on.
use Rattle.ringmatch.proofs.Replies.{parses}
use Rattle.ringmatch.proofs.ringmatch_parse_automaton.Statement.{statement}
use Rattle.ringmatch.proofs.ringmatch_parse_automaton.Tie as tie

pub ringmatch_parse_automaton_spec : {M : Type 1} → statement M
ringmatch_parse_automaton_spec =
    tie.close
    (tie.spec (λ c κs. search parses) (λ c κs. search parses) (λ c. search parses) (λ c. search parses) (λ c. search parses))
