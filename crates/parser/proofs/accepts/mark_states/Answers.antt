-- `mark_states` meets its contract: each turn marks the two names of a transition.
use Rattle.grammar.proofs.Many.{arrows_less}
use Rattle.parser.proofs.Spelling.{states_laws, states_next}
use Rattle.parser.proofs.accepts.mark_states.Goals as goal

pub returns-in_default : goal.returns-in_default
returns-in_default c = search states_laws

pub mark-requires : goal.mark-requires
mark-requires c = search states_laws

pub mark-requires-in-loop-e : goal.mark-requires-in-loop-e
mark-requires-in-loop-e c = search states_laws

pub loop-e-smaller : goal.loop-e-smaller
loop-e-smaller c = arrows_less _ _ _ c.spaced_transition.ensures _ _ c.in-Some.is

pub loop-e-preserved : goal.loop-e-preserved
loop-e-preserved c = (search states_laws, states_next _ _ _ c.spaced_transition.ensures _ _ _ c.loop-e.invariant.1 _ _ c.in-Some.is _ _ c.mark.ensures.1 c.mark-in-loop-e.ensures.1)
