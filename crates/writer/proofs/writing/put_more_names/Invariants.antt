-- The names from the index on are left.
use Rattle.writer.proofs.Putting.{NamesToPut}
use Rattle.writer.proofs.writing.put_more_names.Given as goal

abbrev pub invariant-loop-q : goal.invariant-loop-q
invariant-loop-q l = NamesToPut l.labels.bytes.now l.states l.at l.fn.out l.out l.end l.q-index
