-- By the laws of the records that are left.
use Rattle.writer.proofs.Putting.{transitions_put_laws}
use Rattle.writer.proofs.writing.put_transitions.Goals as goal

pub loop-words-init : goal.loop-words-init
loop-words-init c = search transitions_put_laws

pub put_transition-end-requires : goal.put_transition-end-requires
put_transition-end-requires c = (search transitions_put_laws, search transitions_put_laws, search transitions_put_laws)

pub loop-words-preserved : goal.loop-words-preserved
loop-words-preserved c = search transitions_put_laws

pub returns : goal.returns
returns c = search transitions_put_laws
