-- Each label is written behind those before it.
use Rattle.product.proofs.Sections.{labels_laws}
use Rattle.product.proofs.writing.write_labels.Goals as goal

pub loop-i-init : goal.loop-i-init
loop-i-init c = search labels_laws

pub put_pair-at-requires : goal.put_pair-at-requires
put_pair-at-requires c = search labels_laws

pub loop-i-preserved : goal.loop-i-preserved
loop-i-preserved c = search labels_laws

pub returns : goal.returns
returns c = search labels_laws
