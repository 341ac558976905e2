-- The states from the index on are left.
use Rattle.writer.proofs.Gathering.{StatesLeft, accepts}
use Rattle.writer.proofs.tables.gather_accepting.Given as goal

abbrev pub invariant-loop-q : goal.invariant-loop-q
invariant-loop-q l = StatesLeft (accepts l.s) l.states l.fn.list l.list l.end l.q-index
