-- The holes of the states below `q` are counted.
use Rattle.std.proofs.Common.{◌≡◌, ◌+◌, length, drop}
use Rattle.automata.specs.Automaton.{states}
use Rattle.sheets.specs.Sheet.{state_count, read}
use Rattle.nondeterminism.specs.Nondeterminism.{holes_in}
use Rattle.nondeterminism.proofs.count_holes.Given as goal

abbrev pub invariant-loop-q : goal.invariant-loop-q
invariant-loop-q l = l.count + length (holes_in l.lower l.upper (read l.s) (drop l.q (states (state_count l.s)))) ≡ length (holes_in l.lower l.upper (read l.s) (states (state_count l.s)))
