-- The records from the index on are left.
use Rattle.labels.specs.Labels.{read_labels}
use Rattle.writer.proofs.Putting.{TransitionsToPut}
use Rattle.writer.proofs.writing.put_transitions.Given as goal

abbrev pub invariant-loop-words : goal.invariant-loop-words
invariant-loop-words l = TransitionsToPut (read_labels l.labels.bytes.now) l.records l.chunks l.at l.fn.out l.out l.end l.words-index
