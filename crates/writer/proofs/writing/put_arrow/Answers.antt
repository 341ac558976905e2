-- The four runs that the calls write are the text.
use Rattle.std.proofs.Common.{rules}
use Rattle.writer.proofs.Putting.{arrow_to, arrow_laws}
use Rattle.writer.proofs.writing.put_arrow.Goals as goal

pub put-from-requires : goal.put-from-requires
put-from-requires c = search arrow_laws

pub put_label-arrow-requires : goal.put_label-arrow-requires
put_label-arrow-requires c = (search rules, search arrow_laws)

pub put_all-to-requires : goal.put_all-to-requires
put_all-to-requires c = search arrow_laws

pub put_label-requires : goal.put_label-requires
put_label-requires c = (search rules, arrow_to _ _ _ _ _ c.requires.2 _ _ c.put-from.ensures _ _ c.put_label-arrow.ensures _ _ c.put_all-to.ensures)

pub returns : goal.returns
returns c = search arrow_laws
