-- By the laws of the heading.
use Rattle.writer.proofs.Putting.{heading_laws}
use Rattle.writer.proofs.writing.put_heading.Goals as goal

pub put_all-name-requires : goal.put_all-name-requires
put_all-name-requires c = search heading_laws

pub put_label-end-requires : goal.put_label-end-requires
put_label-end-requires c = (search heading_laws, search heading_laws)

pub put-requires : goal.put-requires
put-requires c = search heading_laws

pub returns : goal.returns
returns c = search heading_laws
