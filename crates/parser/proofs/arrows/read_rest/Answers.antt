-- `read_rest` meets its contract: each turn reads one transition more.
use Rattle.grammar.proofs.Many.{arrows_less}
use Rattle.parser.proofs.ReadInvariant.{carry_laws}
use Rattle.parser.proofs.arrows.read_rest.Goals as goal

pub loop-e-init : goal.loop-e-init
loop-e-init c = search carry_laws

pub returns-in_default : goal.returns-in_default
returns-in_default c = search carry_laws

pub note_arrow-requires : goal.note_arrow-requires
note_arrow-requires c = search carry_laws

pub returns-in_default-note_arrow : goal.returns-in_default-note_arrow
returns-in_default-note_arrow c = search carry_laws

pub loop-e-smaller : goal.loop-e-smaller
loop-e-smaller c = arrows_less _ _ _ c.spaced_transition.ensures _ _ c.in-Some.is

pub loop-e-preserved : goal.loop-e-preserved
loop-e-preserved c = search carry_laws
