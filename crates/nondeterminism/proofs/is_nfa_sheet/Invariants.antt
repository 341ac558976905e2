-- The states from `q` on decide.
use Rattle.std.proofs.Common.{◌≡◌, drop}
use Rattle.automata.specs.Automaton.{states}
use Rattle.sheets.specs.Sheet.{state_count, read}
use Rattle.nondeterminism.specs.Nondeterminism.{is_nfa_in, is_nfa}
use Rattle.nondeterminism.proofs.is_nfa_sheet.Given as goal

abbrev pub invariant-loop-q : goal.invariant-loop-q
invariant-loop-q l = is_nfa l.lower l.upper (read l.s) ≡ is_nfa_in l.lower l.upper (read l.s) (drop l.q (states (state_count l.s)))
