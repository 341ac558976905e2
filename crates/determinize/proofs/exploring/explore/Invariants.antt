-- The sets before entry `i` are visited.
use Rattle.std.proofs.Common.{◌≡◌, ◌-◌, ◌*◌, ◌%◌, ◌<◌, ◌≤◌, length}
use Rattle.words.specs.Simulation.{start_set}
use Rattle.sheets.specs.Sheet.{state_count, read}
use Rattle.sets.specs.inner.BitSet.{set_at, entries}
use Rattle.sets.specs.inner.Places.{Placed}
use Rattle.determinize.specs.inner.Notes.{Canonical}
use Rattle.determinize.proofs.Queued.{QueueInvariant}
use Rattle.determinize.proofs.exploring.explore.Given as goal

abbrev pub invariant-loop-i : goal.invariant-loop-i
invariant-loop-i l = record {
  long : length l.table ≡ 1024;
  whole : length l.notes % 5 ≡ 0;
  few : l.n < 256;
  within : l.i < 256;
  bounded : l.count ≤ 4294967296 * l.i;
  canonical : Canonical (state_count l.s) (entries l.table l.n);
  queued : QueueInvariant l.symbols.lower l.symbols.upper (read l.s) l.initial.notes l.table l.notes l.n l.count l.i;
  start : set_at l.table 0 ≡ start_set (read l.s);
  placed : Placed l.places (entries l.table l.n);
}

abbrev pub decreases-loop-i : goal.decreases-loop-i
decreases-loop-i l = 256 - l.i
