-- The first `i` labels have their numbers.
use Rattle.std.proofs.Common.{◌≡◌}
use Rattle.labels.specs.Labels.{read_labels}
use Rattle.labels.specs.inner.Places.{label_place}
use Rattle.name_table.specs.inner.Names.{names_in}
use Rattle.subautomaton.specs.inner.Tables.{Numbered}
use Rattle.subautomaton.proofs.number_labels.Given as goal

abbrev pub invariant-loop-i : goal.invariant-loop-i
invariant-loop-i l = (l.at ≡ label_place l.x l.i) × Numbered l.i (read_labels l.x) (names_in l.b l.t l.n) l.out
