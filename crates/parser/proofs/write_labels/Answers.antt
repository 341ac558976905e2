-- Each name is written behind those before it.
use Rattle.parser.proofs.Labelling.{label_laws}
use Rattle.parser.proofs.write_labels.Goals as goal

pub loop-j-init : goal.loop-j-init
loop-j-init c = search label_laws

pub put_name-at-requires : goal.put_name-at-requires
put_name-at-requires c = search label_laws

pub loop-j-preserved : goal.loop-j-preserved
loop-j-preserved c = search label_laws

pub returns : goal.returns
returns c = search label_laws
