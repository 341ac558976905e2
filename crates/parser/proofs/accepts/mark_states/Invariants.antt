-- What the loop of `mark_states` keeps: the transitions that are left make the words of the start out of those of the place.
use Rattle.std.proofs.Common.{◌≡◌, ◌-◌, length}
use Rattle.parser.specs.inner.Accepts.{mark_all, spans_from}
use Rattle.parser.specs.inner.Names.{names_in}
use Rattle.parser.proofs.accepts.mark_states.Given as goal

abbrev pub invariant-loop-e : goal.invariant-loop-e
invariant-loop-e l =
    (length l.words ≡ 256)
    × (mark_all l.text (names_in l.text l.t l.n) l.words (spans_from l.text l.at)
    ≡ mark_all l.text (names_in l.text l.t l.n) l.initial.words (spans_from l.text l.initial.at))

abbrev pub decreases-loop-e : goal.decreases-loop-e
decreases-loop-e l = length l.text - l.at
