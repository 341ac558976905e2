-- The places of the labels before `q` are noted.
use Rattle.std.proofs.Common.{◌≡◌}
use Rattle.labels.specs.inner.Places.{label_place}
use Rattle.writer.specs.inner.Tables.{places_below}
use Rattle.writer.proofs.tables.label_places.Given as goal

abbrev pub invariant-loop-q : goal.invariant-loop-q
invariant-loop-q l = record { at : l.at ≡ label_place l.labels l.q; placed : l.places ≡ places_below l.labels l.fn.places l.q }
