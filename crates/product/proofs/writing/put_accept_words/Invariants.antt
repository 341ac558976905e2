-- The accept words of `i` pairs are written.
use Rattle.std.proofs.Common.{◌≡◌, ◌+◌, map}
use Rattle.stores.specs.Written.{Written}
use Rattle.sheets.specs.Sheet.{read}
use Rattle.product.specs.Product.{pair_accept}
use Rattle.product.specs.inner.Tables.{table_of}
use Rattle.product.proofs.writing.put_accept_words.Given as goal

abbrev pub invariant-loop-i : goal.invariant-loop-i
invariant-loop-i l = (l.end ≡ l.at + l.i) × Written l.initial.out l.at (map (pair_accept (read l.a) (read l.b)) (table_of l.queue l.i)) l.out l.end
