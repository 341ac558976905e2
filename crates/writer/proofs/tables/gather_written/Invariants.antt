-- The states from `q` on are left.
use Rattle.automata.specs.Automaton.{states}
use Rattle.sheets.specs.Sheet.{state_count, read}
use Rattle.writer.specs.Text.{is_written}
use Rattle.writer.proofs.Gathering.{StatesLeft}
use Rattle.writer.proofs.tables.gather_written.Given as goal

abbrev pub invariant-loop-q : goal.invariant-loop-q
invariant-loop-q l = StatesLeft (is_written (read l.s)) (states (state_count l.s)) l.fn.list l.list l.end l.q
