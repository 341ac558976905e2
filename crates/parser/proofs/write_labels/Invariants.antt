-- Each turn writes one name more.
use Rattle.labels.specs.Labels.{write_entries}
use Rattle.stores.specs.Written.{Written}
use Rattle.parser.specs.inner.Names.{names_in}
use Rattle.parser.proofs.write_labels.Given as goal

abbrev pub invariant-loop-j : goal.invariant-loop-j
invariant-loop-j l = Written l.initial.names l.initial.at (write_entries (names_in l.text l.t l.j)) l.names l.at
