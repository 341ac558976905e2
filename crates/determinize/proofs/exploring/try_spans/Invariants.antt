-- The spans below `a` are visited, and the first row of the table is as it was.
use Rattle.std.proofs.Common.{◌≡◌, ◌+◌, ◌-◌, ◌%◌, ◌<◌, ◌≤◌, length}
use Rattle.sets.specs.inner.BitSet.{set_at, entries}
use Rattle.sets.specs.inner.Places.{Placed}
use Rattle.sheets.specs.Sheet.{state_count, read}
use Rattle.determinize.specs.inner.Notes.{Canonical}
use Rattle.determinize.proofs.Visits.{SpansInvariant}
use Rattle.determinize.proofs.exploring.try_spans.Given as goal

abbrev pub invariant-loop-a : goal.invariant-loop-a
invariant-loop-a l = record {
  top : l.top ≤ 4294967296;
  long : length l.table ≡ 1024;
  whole : length l.notes % 5 ≡ 0;
  some : 0 < l.n;
  few : l.n < 256;
  below : l.a ≤ 4294967296;
  more : l.noted ≤ l.count;
  counted : l.count + l.initial.a ≤ l.noted + l.a;
  start : set_at l.table 0 ≡ set_at l.initial.table 0;
  canonical : Canonical (state_count l.s) (entries l.table l.n);
  visited : SpansInvariant l.initial.a l.upper (read l.s) (set_at l.set 0) (entries l.initial.table l.initial.n) l.from l.initial.notes l.noted l.table l.notes l.n l.count l.a;
  placed : Placed l.places (entries l.table l.n);
}

abbrev pub decreases-loop-a : goal.decreases-loop-a
decreases-loop-a l = l.top - l.a
