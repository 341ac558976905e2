-- What the loop of `rest_are_states` keeps: the names of the table and those that are left decide.
use Rattle.std.proofs.Common.{◌≡◌, ◌-◌, ◌<◌, ◌&&◌, [], ◌∷◌, length}
use Rattle.grammar.specs.Places.{spelled}
use Rattle.lists.specs.Lists.{all}
use Rattle.parser.specs.Pattern.{is_among}
use Rattle.parser.specs.inner.Accepts.{names_from}
use Rattle.parser.specs.inner.Arrows.{all_names}
use Rattle.parser.specs.inner.Names.{SpeltTable, names_in}
use Rattle.parser.proofs.accepts.rest_are_states.Given as goal

abbrev pub invariant-loop-y : goal.invariant-loop-y
invariant-loop-y l =
    let known = all (is_among (all_names l.text l.arrows.at (spelled l.text l.x ∷ []))) in
    SpeltTable l.text l.t l.k × (l.k < 256)
    × ((known (names_in l.text l.t l.k) && known (names_from l.text l.at)) ≡ (known (names_in l.text l.initial.t l.n) && known (names_from l.text l.initial.at)))

abbrev pub decreases-loop-y : goal.decreases-loop-y
decreases-loop-y l = length l.text - l.at
