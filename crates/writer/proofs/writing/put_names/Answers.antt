-- By the laws of the first name and the rest.
use Rattle.writer.proofs.Putting.{front_laws}
use Rattle.writer.proofs.writing.put_names.Goals as goal

pub put_label-more-requires : goal.put_label-more-requires
put_label-more-requires c = (search front_laws, search front_laws)

pub put_more_names-requires : goal.put_more_names-requires
put_more_names-requires c = (search front_laws, search front_laws)

pub returns : goal.returns
returns c = search front_laws
