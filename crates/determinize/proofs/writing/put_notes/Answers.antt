-- By the laws of the notes that are left.
use Rattle.determinize.proofs.Sections.{notes_laws}
use Rattle.determinize.proofs.writing.put_notes.Goals as goal

pub loop-note-init : goal.loop-note-init
loop-note-init c = search notes_laws

pub put_note-end-requires : goal.put_note-end-requires
put_note-end-requires c = search notes_laws

pub loop-note-preserved : goal.loop-note-preserved
loop-note-preserved c = search notes_laws

pub returns : goal.returns
returns c = search notes_laws
