-- The symbols from the index on are left to read.
use Rattle.std.proofs.Common.{◌≡◌, drop}
use Rattle.sets.specs.inner.BitSet.{set_at}
use Rattle.sets.specs.inner.Members.{Canon}
use Rattle.sheets.specs.Sheet.{state_count, read}
use Rattle.words.specs.Simulation.{simulate}
use Rattle.words.proofs.read_word.Given as goal

abbrev pub invariant-loop-symbol : goal.invariant-loop-symbol
invariant-loop-symbol l = record {
  canon : Canon (state_count l.s) (set_at l.current 0);
  left : simulate (read l.s) (set_at l.current 0) (drop l.symbol-index l.word) ≡ simulate (read l.s) (set_at l.initial.current 0) l.word;
}
