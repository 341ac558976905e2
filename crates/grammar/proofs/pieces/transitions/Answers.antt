-- The loop of `transitions` goes on behind the transition that was read.
use Rattle.grammar.proofs.Many.{arrows_less, arrows_next}
use Rattle.grammar.proofs.pieces.transitions.Goals as goal

pub loop-next-smaller : goal.loop-next-smaller
loop-next-smaller c = arrows_less _ _ _ c.spaced_transition.ensures _ _ c.in-Some.is

pub loop-next-preserved : goal.loop-next-preserved
loop-next-preserved c = arrows_next _ _ _ c.spaced_transition.ensures _ c.loop-next.invariant _ _ c.in-Some.is
