-- The spans below the turn's cut are visited, and the events below it are passed.
use Rattle.std.proofs.Common.{◌≡◌, ◌+◌, ◌-◌, ◌%◌, ◌<◌, ◌≤◌, length}
use Rattle.sets.specs.inner.BitSet.{set_at, entries}
use Rattle.sets.specs.inner.Places.{Placed}
use Rattle.sheets.specs.Sheet.{state_count, read}
use Rattle.sweep.specs.inner.Passing.{Passing}
use Rattle.determinize.specs.inner.Attempts.{SetNumbered}
use Rattle.determinize.specs.inner.Notes.{Canonical}
use Rattle.determinize.proofs.Visits.{SpansInvariant}
use Rattle.determinize.proofs.sweeping.sweep_spans.Given as goal

abbrev pub invariant-loop-turn : goal.invariant-loop-turn
invariant-loop-turn l = record {
  top : l.top ≤ 4294967296;
  few_noted : l.initial.count ≤ 1099511627776;
  long : length l.table ≡ 1024;
  whole : length l.notes % 5 ≡ 0;
  few : l.n < 256;
  below : l.turn.cut ≤ 4294967296;
  counted : l.count + l.initial.turn.cut ≤ l.initial.count + l.turn.cut;
  canonical : Canonical (state_count l.s) (entries l.table l.n);
  visited : SpansInvariant l.initial.turn.cut l.upper (read l.s) (set_at l.set 0) (entries l.initial.table l.initial.n) l.from l.initial.notes l.initial.count l.table l.notes l.n l.count l.turn.cut;
  passed : Passing l.s l.closures l.opens l.ends (set_at l.set 0) l.turn.opens l.turn.ends l.turn.cut l.reach l.tree;
  numbered : SetNumbered (entries l.table l.n) l.near;
  placed : Placed l.places (entries l.table l.n);
}

abbrev pub decreases-loop-turn : goal.decreases-loop-turn
decreases-loop-turn l = l.top - l.turn.cut
