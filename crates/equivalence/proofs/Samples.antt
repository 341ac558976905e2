-- Answers that antt computes.
use Rattle.std.proofs.Common.{ℕ, true, false, List, [], ◌∷◌, ◌≡◌, refl}
use mathlib.Core.List.{flat_map}
use Rattle.lists.specs.Lists.{any, filter}
use Rattle.automata.specs.Automaton.{Transition, Automaton, leaving}
use Rattle.search.specs.Search.{index, add, meet, explore, table}
use Rattle.automata.specs.Pairs.{same_pair}
use Rattle.equivalence.specs.Triggers
use Rattle.equivalence.specs.Equivalent

-- from 0 by the symbols from first to last
range : ℕ → ℕ → ℕ → Transition
range first last to = record { from = 0; kind = 1; first = first; last = last; to = to }

-- states 0, 1 and 2, the accept words of which are given, and the start 0
three : List ℕ → List Transition → Automaton
three accept es = record { size = 3; start = 0; accept = accept; transitions = es }

-- the same range to an accepting state, whatever its number; to one that rejects; a range cut in two, which has the same words; an epsilon, which
-- is not the range of the symbol 0; a range with two targets, of which the lower counts, though the words differ
samples :
    (Equivalent.equivalent (three (0 ∷ 1 ∷ 0 ∷ []) (range 0 9 1 ∷ [])) (three (0 ∷ 0 ∷ 1 ∷ []) (range 0 9 2 ∷ [])) ≡ true)
    × (Equivalent.equivalent (three (0 ∷ 1 ∷ 0 ∷ []) (range 0 9 1 ∷ [])) (three (0 ∷ 0 ∷ 1 ∷ []) (range 0 9 1 ∷ [])) ≡ false)
    × (Equivalent.equivalent (three (0 ∷ 1 ∷ 0 ∷ []) (range 0 9 1 ∷ [])) (three (0 ∷ 1 ∷ 0 ∷ []) (range 0 4 1 ∷ range 5 9 1 ∷ [])) ≡ false)
    × (Equivalent.equivalent (three (0 ∷ 1 ∷ 0 ∷ []) (range 0 0 1 ∷ [])) (three (0 ∷ 1 ∷ 0 ∷ []) (record { from = 0; kind = 0; first = 0; last = 0; to = 1 } ∷ [])) ≡ false)
    × (Equivalent.equivalent (three (0 ∷ 0 ∷ 1 ∷ []) (range 0 9 1 ∷ range 0 9 2 ∷ [])) (three (0 ∷ 0 ∷ 0 ∷ []) (range 0 9 1 ∷ [])) ≡ true)
unfolding range three Equivalent.equivalent Equivalent.all_alike Equivalent.trigger_pairs Equivalent.trigger_targets Equivalent.trigger_targets_with Equivalent.alike Triggers.same_trigger Triggers.is_lower Triggers.is_first Triggers.firsts Triggers.is_lacking Triggers.triggers_within any filter flat_map leaving same_pair index add meet explore table
samples = (refl, refl, refl, refl, refl)
