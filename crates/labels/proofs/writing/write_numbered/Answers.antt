use Rattle.labels.proofs.Whole.{numbered_laws}
use Rattle.labels.proofs.writing.write_numbered.Goals as goal

pub loop-k-init : goal.loop-k-init
loop-k-init c = search numbered_laws

pub put_numbered-at-requires : goal.put_numbered-at-requires
put_numbered-at-requires c = search numbered_laws

pub loop-k-preserved : goal.loop-k-preserved
loop-k-preserved c = search numbered_laws

pub returns : goal.returns
returns c = search numbered_laws
