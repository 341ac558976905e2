-- By the laws of the parts of the text.
use Rattle.writer.proofs.TextParts.{ready_laws}
use Rattle.writer.proofs.lengths.text_length.Goals as goal

pub label_length-start-requires : goal.label_length-start-requires
label_length-start-requires c = search ready_laws

pub transitions_length-transitions-requires : goal.transitions_length-transitions-requires
transitions_length-transitions-requires c = (search ready_laws, search ready_laws)

pub names_length-names-requires : goal.names_length-names-requires
names_length-names-requires c = (search ready_laws, search ready_laws)

pub returns : goal.returns
returns c = search ready_laws
