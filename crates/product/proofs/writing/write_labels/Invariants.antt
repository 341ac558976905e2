-- The labels of `i` pairs are written.
use Rattle.std.proofs.Common.{map}
use Rattle.stores.specs.Written.{Written}
use Rattle.labels.specs.Labels.{write_entries}
use Rattle.product.specs.Product.{pair_label_of}
use Rattle.product.specs.inner.Tables.{table_of}
use Rattle.product.proofs.writing.write_labels.Given as goal

abbrev pub invariant-loop-i : goal.invariant-loop-i
invariant-loop-i l = Written l.initial.names l.initial.at (write_entries (map pair_label_of (table_of l.queue l.i))) l.names l.at
