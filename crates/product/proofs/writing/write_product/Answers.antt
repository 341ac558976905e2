-- The large memory is taken, or what is gathered are the transitions of the product.
use Rattle.std.proofs.Common.{arith}
use Rattle.product.proofs.Making.{part_words, part_few}
use Rattle.product.proofs.Queueing.{queued_room}
use Rattle.product.proofs.writing.write_product.Goals as goal

pub write_outputs-requires : goal.write_outputs-requires
write_outputs-requires c =
    let s = c.requires in
    let p = c.collect_pairs-behind.ensures in (
      s.0.accepted,
      s.1.accepted,
      queued_room _ _ _ s.3,
      s.4,
      s.5,
      s.6,
      part_words _ _ _ _ _ _ p (omega (arith, c.if-behind-gt640.false)),
      part_few _ _ _ _ _ _ p (omega (arith, c.if-behind-gt640.false)),
      s.7,
      s.8,
    )
