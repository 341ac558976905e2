-- The loop of `next_names` goes on behind the name that was read.
use Rattle.grammar.proofs.Many.{names_less, names_next}
use Rattle.grammar.proofs.pieces.next_names.Goals as goal

pub loop-next-smaller : goal.loop-next-smaller
loop-next-smaller c = names_less _ _ _ c.next_name.ensures _ _ c.in-Some.is

pub loop-next-preserved : goal.loop-next-preserved
loop-next-preserved c = names_next _ _ _ c.next_name.ensures _ c.loop-next.invariant _ _ c.in-Some.is
