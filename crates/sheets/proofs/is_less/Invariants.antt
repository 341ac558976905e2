-- Up to `i` the records are equal, so what is left of them decides.
use Rattle.std.proofs.Common.{◌≡◌, drop}
use Rattle.automata.specs.Ordered.{less}
use Rattle.sheets.proofs.is_less.Given as goal

abbrev pub invariant-loop-i : goal.invariant-loop-i
invariant-loop-i l = less l.a l.b ≡ less (drop l.i l.a) (drop l.i l.b)
