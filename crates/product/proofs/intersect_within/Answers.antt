-- `intersect_within` meets its contract: the three answers of the search.
use Rattle.std.proofs.Common.{rules, arith}
use Rattle.product.proofs.Making.{table_room, fresh_table, found_whole}
use Rattle.product.proofs.intersect_within.Goals as goal

pub find_pairs-count-requires : goal.find_pairs-count-requires
find_pairs-count-requires g c = let s = c.requires in (s.0, s.1, table_room c.args.a.now _ s.2, fresh_table _ s.3)

pub write_product-requires : goal.write_product-requires
write_product-requires g c =
    let s = c.requires in
    let f = c.find_pairs-count.ensures in (
      s.0,
      s.1,
      search (table_room, rules),
      f.0,
      omega arith,
      f.1,
      found_whole _ _ _ _ f.2 (omega arith) _ c.has_blocked_pair.ensures c.if-has_blocked_pair.false,
      s.4,
      s.5,
    )
