-- What is gathered are the transitions of the product, or they are too many.
use Rattle.std.proofs.Common.{arith, rules}
use Rattle.product.proofs.Making.{product_many, part_words, part_few, made_many}
use Rattle.product.proofs.Queueing.{queued_room}
use Rattle.product.proofs.writing.write_large.Goals as goal

pub returns-then-behind-gt10240 : goal.returns-then-behind-gt10240
returns-then-behind-gt10240 c =
    made_many _ _ _ _ (product_many _ _ _ _ _ _ c.collect_pairs-behind.ensures c.requires.6 (search rules) (omega (arith, c.if-behind-gt10240.true)))

pub write_outputs-requires : goal.write_outputs-requires
write_outputs-requires c =
    let s = c.requires in
    let p = c.collect_pairs-behind.ensures in (
      s.0.accepted,
      s.1.accepted,
      queued_room _ _ _ s.3,
      s.4,
      s.5,
      s.6,
      part_words _ _ _ _ _ _ p (omega (arith, c.if-behind-gt10240.false)),
      part_few _ _ _ _ _ _ p (omega (arith, c.if-behind-gt10240.false)),
      s.7,
      s.8,
    )
