-- `note_arrow` meets its contract: the two names, then the record between their numbers.
use Rattle.parser.proofs.Entering.{both_laws, both_noted}
use Rattle.parser.proofs.arrows.note_arrow.Goals as goal

pub returns-in_err-from : goal.returns-in_err-from
returns-in_err-from c = search both_laws

pub returns-in_err-to : goal.returns-in_err-to
returns-in_err-to c = search both_laws

pub returns : goal.returns
returns c = both_noted c.args.text.now c.args.e _ _ _ c.enter.ensures _ c.in_ok-from.was _ _ c.enter-2.ensures _ c.in_ok-to.was _ _ _ _ c.note-filled.ensures
