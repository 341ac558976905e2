-- The records from the index on are left.
use Rattle.labels.specs.Labels.{read_labels}
use Rattle.writer.proofs.Counting.{TransitionsLeft}
use Rattle.writer.proofs.lengths.transitions_length.Given as goal

abbrev pub invariant-loop-words : goal.invariant-loop-words
invariant-loop-words l = TransitionsLeft (read_labels l.labels.bytes.now) l.records l.chunks l.n l.words-index
