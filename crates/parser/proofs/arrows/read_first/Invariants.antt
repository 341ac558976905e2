-- What the loop of `read_first` keeps: with the transitions that are left, the names and the records are those of the start.
use Rattle.std.proofs.Common.{◌-◌, ◌<◌, length}
use Rattle.parser.specs.inner.Arrows.{ReadInvariant}
use Rattle.parser.specs.inner.Names.{names_in}
use Rattle.parser.proofs.arrows.read_first.Given as goal

abbrev pub invariant-loop-filled : goal.invariant-loop-filled
invariant-loop-filled l =
    ReadInvariant l.text l.initial.at (names_in l.text l.initial.t l.n) l.t l.buf l.at l.count l.filled × (l.filled.end < length l.buf)

abbrev pub decreases-loop-filled : goal.decreases-loop-filled
decreases-loop-filled l = length l.text - l.at
