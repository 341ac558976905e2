-- Each turn writes one symbol more.
use Rattle.std.proofs.Common.{◌+◌, ◌*◌, ◌≤◌, take}
use Rattle.stores.specs.Written.{Written}
use Rattle.verdict_line.specs.Line.{symbols}
use Rattle.verdict_line.proofs.lines.put_differ.Given as goal

abbrev pub invariant-loop-x : goal.invariant-loop-x
invariant-loop-x l = (l.at ≤ l.initial.at + 11 * l.x-index) × Written l.initial.out l.initial.at (symbols (take l.x-index l.word)) l.out l.at
