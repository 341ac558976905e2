-- By the laws of the names that are left.
use Rattle.writer.proofs.Counting.{names_laws}
use Rattle.writer.proofs.lengths.names_length.Goals as goal

pub loop-q-preserved : goal.loop-q-preserved
loop-q-preserved c = search names_laws

pub returns : goal.returns
returns c = (search names_laws, search names_laws)
