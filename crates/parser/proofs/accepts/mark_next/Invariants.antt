-- What the loop of `mark_next` keeps: the names that are left decide with those before, and make the words of the start out of those of the place.
use Rattle.std.proofs.Common.{◌≡◌, ◌-◌, ◌&&◌, length}
use Rattle.grammar.specs.Grammar.{next_names}
use Rattle.lists.specs.Lists.{all}
use Rattle.parser.specs.Pattern.{is_among}
use Rattle.parser.specs.inner.Accepts.{mark_all, names_from}
use Rattle.parser.specs.inner.Names.{names_in}
use Rattle.parser.proofs.accepts.mark_next.Given as goal

abbrev pub invariant-loop-x : goal.invariant-loop-x
invariant-loop-x l =
    (length l.words ≡ 256)
    × ((l.known && all (is_among (names_in l.text l.t l.n)) (names_from l.text l.at)) ≡ all (is_among (names_in l.text l.t l.n)) (names_from l.text l.initial.at))
    × (mark_all l.text (names_in l.text l.t l.n) l.words (next_names l.text l.at).items
    ≡ mark_all l.text (names_in l.text l.t l.n) l.initial.words (next_names l.text l.initial.at).items)

abbrev pub decreases-loop-x : goal.decreases-loop-x
decreases-loop-x l = length l.text - l.at
