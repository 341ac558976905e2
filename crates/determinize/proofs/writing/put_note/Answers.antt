-- 256 stands for the sink.
use Rattle.determinize.proofs.Sections.{noted_laws}
use Rattle.determinize.proofs.writing.put_note.Goals as goal

pub returns-then-to-eq256 : goal.returns-then-to-eq256
returns-then-to-eq256 c = search noted_laws

pub returns : goal.returns
returns c = search noted_laws
