-- Each label's number is stored behind those of the labels before it.
use Rattle.subautomaton.proofs.Numbering.{number_laws}
use Rattle.subautomaton.proofs.number_labels.Goals as goal

pub loop-i-init : goal.loop-i-init
loop-i-init c = search number_laws

pub label_from-requires : goal.label_from-requires
label_from-requires c = search number_laws

pub overflow_cast-out : goal.overflow_cast-out
overflow_cast-out c = search number_laws

pub next_label-at-requires : goal.next_label-at-requires
next_label-at-requires c = search number_laws

pub loop-i-preserved : goal.loop-i-preserved
loop-i-preserved c = search number_laws
