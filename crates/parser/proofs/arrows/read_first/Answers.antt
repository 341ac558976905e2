-- `read_first` meets its contract: each turn reads one transition more.
use Rattle.std.proofs.Common.{rules}
use Rattle.grammar.proofs.Many.{arrows_less}
use Rattle.parser.proofs.ReadInvariant.{going_laws, going_room}
use Rattle.parser.proofs.arrows.read_first.Goals as goal

pub loop-filled-init : goal.loop-filled-init
loop-filled-init c = search going_laws

pub returns-in_default : goal.returns-in_default
returns-in_default c = search going_laws

pub note_arrow-requires : goal.note_arrow-requires
note_arrow-requires c = search going_laws

pub returns-in_default-note_arrow : goal.returns-in_default-note_arrow
returns-in_default-note_arrow c = search going_laws

pub loop-filled-smaller : goal.loop-filled-smaller
loop-filled-smaller c = arrows_less _ _ _ c.spaced_transition.ensures _ _ c.in-Some.is

pub loop-filled-preserved : goal.loop-filled-preserved
loop-filled-preserved c = (search going_laws, going_room _ _ _ _ _ _ _ _ c.loop-filled.invariant.0 _ c.spaced_transition.ensures _ _ c.in-Some.is _ _ _ c.note_arrow.ensures _ c.in-Some-note_arrow.is (search rules))
