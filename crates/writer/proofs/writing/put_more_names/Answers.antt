-- By the laws of the names that are left.
use Rattle.writer.proofs.Putting.{names_put_laws}
use Rattle.writer.proofs.writing.put_more_names.Goals as goal

pub put_all-name-requires : goal.put_all-name-requires
put_all-name-requires c = search names_put_laws

pub put_label-end-requires : goal.put_label-end-requires
put_label-end-requires c = search names_put_laws

pub loop-q-preserved : goal.loop-q-preserved
loop-q-preserved c = search names_put_laws

pub returns : goal.returns
returns c = search names_put_laws
