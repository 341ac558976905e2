-- What is left to be read and stored gives what was to be read and stored.
use Rattle.std.proofs.Common.{◌≡◌, ◌+◌, ◌-◌, ◌^◌, ◌≤◌, ◌<◌, max, length, drop}
use Rattle.replay.specs.Lines.{line_from, line_at}
use Rattle.replay.proofs.Lines.{outcome}
use Rattle.replay.proofs.read_line.Given as goal

abbrev pub invariant-loop-i : goal.invariant-loop-i
invariant-loop-i l =
    (l.i ≤ max l.at (length l.text)) × (l.v < 2 ^ 32) × (l.n + (length l.text - l.i) ≤ length l.text)
    × (outcome l.out l.n l.i (line_from l.begun l.v (drop l.i l.text)) ≡ outcome l.initial.out 0 l.at (line_at l.text l.at))
