-- By the laws of what is left.
use Rattle.lookups.proofs.Sheets.{links_laws}
use Rattle.lookups.proofs.put_links.Goals as goal

pub put_record-end-requires : goal.put_record-end-requires
put_record-end-requires c = search links_laws

pub loop-i-preserved : goal.loop-i-preserved
loop-i-preserved c = search links_laws

pub returns : goal.returns
returns c = search links_laws
