-- The sheet and the labels are those of the product.
use Rattle.product.proofs.Making.{product_made}
use Rattle.product.proofs.writing.write_outputs.Goals as goal

pub returns : goal.returns
returns c = let s = c.requires in product_made _ _ _ _ s.5 _ s.6 s.7 s.2 _ _ _ _ _ _ c.write_sheet-words.ensures c.write_labels-bytes.ensures
