-- What the states from `p` on still add gives what all add.
use Rattle.std.proofs.Common.{◌≡◌, length, drop}
use mathlib.Core.List.{flat_map}
use Rattle.automata.specs.Automaton.{states}
use Rattle.output.specs.inner.Gathering.{Rest, Collected}
use Rattle.sets.specs.inner.BitSet.{set_at}
use Rattle.sheets.specs.Sheet.{state_count, read}
use Rattle.epsilon.specs.Eliminate.{ranges_from, closure_ranges}
use Rattle.epsilon.proofs.add_closures.Given as goal

abbrev pub invariant-loop-p : goal.invariant-loop-p
invariant-loop-p l = record {
  same : length l.part ≡ length l.fn.part;
  collected : Collected l.part l.end (ranges_from (read l.s) 0 (set_at l.set 0));
  rest : Rest l.buf l.f.sorted l.f.end (flat_map (closure_ranges (read l.s)) (drop l.p (states (state_count l.s)))) (flat_map (closure_ranges (read l.s)) (states (state_count l.s)));
}
