-- The holes from `cursor` on are left to write, with room for one behind each record and one at the end.
use Rattle.std.proofs.Common.{◌+◌, ◌-◌, ◌/◌, ◌≤◌, length}
use Rattle.automata.specs.Automaton.{ranges_of}
use Rattle.automata.specs.Records.{read_records}
use Rattle.ranges.specs.Missing.{missing}
use Rattle.ranges.proofs.Writing.{HolesLeft}
use Rattle.ranges.proofs.missing_ranges.Given as goal

abbrev pub invariant-loop-r : goal.invariant-loop-r
invariant-loop-r l = record {
  room : l.n + (length l.records - l.r-index) + 1 ≤ length l.holes / 2;
  left : HolesLeft l.records l.initial.holes l.upper (missing l.lower l.upper (ranges_of (read_records l.run))) l.holes l.cursor l.n l.r-index;
}
