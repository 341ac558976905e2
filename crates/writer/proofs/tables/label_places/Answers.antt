-- By the laws of the labels' places.
use Rattle.writer.proofs.Places.{placing_laws}
use Rattle.writer.proofs.tables.label_places.Goals as goal

pub loop-q-init : goal.loop-q-init
loop-q-init c = record { at = search placing_laws; placed = search placing_laws }

pub next_label-at-requires : goal.next_label-at-requires
next_label-at-requires c = search placing_laws

pub loop-q-preserved : goal.loop-q-preserved
loop-q-preserved c = record { at = search placing_laws; placed = search placing_laws }
