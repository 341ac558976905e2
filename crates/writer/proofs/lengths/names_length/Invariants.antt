-- The names from the index on are left.
use Rattle.writer.proofs.Counting.{NamesLeft}
use Rattle.writer.proofs.lengths.names_length.Given as goal

abbrev pub invariant-loop-q : goal.invariant-loop-q
invariant-loop-q l = NamesLeft l.labels.bytes.now l.states l.n l.q-index
