-- `over_states` meets its contract: all accepting names are states, or not.
use borrow.Author.Rules.{rules}
use Rattle.parser.proofs.Reading.{states_21, states_33}
use Rattle.parser.proofs.over_states.Statement.{statement}
use Rattle.parser.proofs.over_states.Tie as tie

pub over_states_spec : {M : Type 1} → statement M
over_states_spec =
    tie.close
    (tie.spec (λ c κs. search rules)
    (λ c. states_21 _ c.args.l _ c.are_states.ensures (search rules))
    (λ c. states_33 _ c.args.l _ c.are_states.ensures (search rules)))
