-- `mark_next` meets its contract: each turn marks one name more, and a name that is no state decides.
use Rattle.grammar.proofs.Many.{names_less}
use Rattle.parser.proofs.Marking.{marks_next}
use Rattle.parser.proofs.Spelling.{known_laws, names_lost}
use Rattle.parser.proofs.accepts.mark_next.Goals as goal

pub returns-in_default : goal.returns-in_default
returns-in_default c = (search known_laws, search known_laws)

pub mark-found-requires : goal.mark-found-requires
mark-found-requires c = search known_laws

pub loop-x-smaller-then-known : goal.loop-x-smaller-then-known
loop-x-smaller-then-known c = names_less _ _ _ c.next_name.ensures _ _ c.in-Some.is

pub loop-x-preserved-then-known : goal.loop-x-preserved-then-known
loop-x-preserved-then-known c = (search known_laws, search known_laws, marks_next _ _ _ c.next_name.ensures _ _ _ c.loop-x.invariant.2 _ _ c.in-Some.is _ c.mark-found.ensures.1)

pub loop-x-smaller : goal.loop-x-smaller
loop-x-smaller c = names_less _ _ _ c.next_name.ensures _ _ c.in-Some.is

pub loop-x-preserved : goal.loop-x-preserved
loop-x-preserved c = (search known_laws, names_lost _ _ _ _ _ c.loop-x.invariant.1 c.if-known.false _, marks_next _ _ _ c.next_name.ensures _ _ _ c.loop-x.invariant.2 _ _ c.in-Some.is _ c.mark-found.ensures.1)
