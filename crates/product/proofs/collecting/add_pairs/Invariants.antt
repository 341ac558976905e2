-- The pairs from `i` on are left.
use Rattle.std.proofs.Common.{drop}
use Rattle.sheets.specs.Sheet.{read}
use Rattle.output.specs.inner.Gathering.{Rest}
use Rattle.product.specs.Product.{transitions_from, place_in}
use Rattle.product.specs.inner.Tables.{table_of}
use Rattle.product.proofs.collecting.add_pairs.Given as goal

abbrev pub invariant-loop-i : goal.invariant-loop-i
invariant-loop-i l =
    let T = table_of l.queue l.n in
    Rest l.buf l.f.sorted l.f.end (transitions_from (place_in T) (read l.a) (read l.b) l.i (drop l.i T)) (transitions_from (place_in T) (read l.a) (read l.b) 0 T)
