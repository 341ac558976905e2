-- Each label is entered behind those before it, and there is room for each.
use Rattle.subautomaton.proofs.Entering.{enter_laws}
use Rattle.subautomaton.proofs.enter_labels.Goals as goal

pub loop-init : goal.loop-init
loop-init c = search enter_laws

pub next_label-next-requires : goal.next_label-next-requires
next_label-next-requires c = search enter_laws

pub add-requires : goal.add-requires
add-requires c = search enter_laws

pub returns-in_default : goal.returns-in_default
returns-in_default c = search enter_laws

pub loop-preserved : goal.loop-preserved
loop-preserved c = search enter_laws

pub returns : goal.returns
returns c = search enter_laws
