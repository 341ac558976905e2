-- The place is that of the label.
use Rattle.writer.proofs.Places.{label_found}
use Rattle.writer.proofs.label_list.LabelList.label.Goals as goal

pub returns : goal.returns
returns c = label_found _ _ _ c.args.self.placed c.requires _ c.label_from.ensures
