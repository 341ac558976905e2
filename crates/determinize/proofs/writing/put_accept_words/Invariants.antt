-- The accept words of the sets before `j` are written.
use Rattle.std.proofs.Common.{◌≡◌, ◌+◌, map}
use Rattle.stores.specs.Written.{Written}
use Rattle.sets.specs.inner.BitSet.{entries}
use Rattle.sheets.specs.Sheet.{read}
use Rattle.words.specs.Simulation.{kind_of}
use Rattle.determinize.proofs.writing.put_accept_words.Given as goal

abbrev pub invariant-loop-j : goal.invariant-loop-j
invariant-loop-j l = (l.end ≡ l.at + l.j) × Written l.fn.out l.at (map (kind_of (read l.s)) (entries l.table l.j)) l.out l.end
