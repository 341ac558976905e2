-- What the loop of `read_rest` keeps: whatever was read up to the start is read up to the place.
use Rattle.std.proofs.Common.{◌-◌, length}
use Rattle.parser.proofs.ReadInvariant.{ReadOnInvariant}
use Rattle.parser.proofs.arrows.read_rest.Given as goal

abbrev pub invariant-loop-e : goal.invariant-loop-e
invariant-loop-e l = ReadOnInvariant l.text l.initial.t l.initial.buf l.initial.at l.initial.count l.initial.filled l.t l.buf l.at l.count l.filled

abbrev pub decreases-loop-e : goal.decreases-loop-e
decreases-loop-e l = length l.text - l.at
