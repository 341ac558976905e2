-- The notes from the index on are left.
use Rattle.determinize.proofs.Sections.{NotesLeft}
use Rattle.determinize.proofs.writing.put_notes.Given as goal

abbrev pub invariant-loop-note : goal.invariant-loop-note
invariant-loop-note l = NotesLeft l.notes l.sink l.fn.out l.at l.records l.out l.end l.note-index
