-- k labels stand behind the count.
use Rattle.labels.specs.Forms.{numbered_labels}
use Rattle.labels.specs.Labels.{write_entries}
use Rattle.stores.specs.Written.{Written}
use Rattle.labels.proofs.writing.write_numbered.Given as goal

abbrev pub invariant-loop-k : goal.invariant-loop-k
invariant-loop-k l = Written l.initial.out l.initial.at (write_entries (numbered_labels l.k)) l.out l.at
