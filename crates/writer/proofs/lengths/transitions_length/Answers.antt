-- By the laws of the records that are left.
use Rattle.writer.proofs.Counting.{transitions_laws}
use Rattle.writer.proofs.lengths.transitions_length.Goals as goal

pub loop-words-init : goal.loop-words-init
loop-words-init c = search transitions_laws

pub transition_length-n-requires : goal.transition_length-n-requires
transition_length-n-requires c = (search transitions_laws, search transitions_laws)

pub loop-words-preserved : goal.loop-words-preserved
loop-words-preserved c = search transitions_laws

pub returns : goal.returns
returns c = (search transitions_laws, search transitions_laws)
