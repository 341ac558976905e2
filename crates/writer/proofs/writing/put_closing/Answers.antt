-- By the laws of the closing.
use Rattle.writer.proofs.Putting.{closing_laws}
use Rattle.writer.proofs.writing.put_closing.Goals as goal

pub put_all-names-requires : goal.put_all-names-requires
put_all-names-requires c = search closing_laws

pub put_names-end-requires : goal.put_names-end-requires
put_names-end-requires c = (search closing_laws, search closing_laws, search closing_laws)

pub put_all-requires : goal.put_all-requires
put_all-requires c = search closing_laws

pub returns : goal.returns
returns c = search closing_laws
