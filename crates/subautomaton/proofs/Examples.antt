-- Patterns that are subautomata and patterns that are not, computed.
use Prim.Native.Nat.{ℕ}
use mathlib.Core.Bool.{true, false}
use mathlib.Core.List.{List, [], ◌∷◌}
use mathlib.Core.Path.{◌≡◌, refl}
use Rattle.lists.specs.Lists.{any, all, tabulate}
use Rattle.automata.specs.Automaton.{Transition, states}
use Rattle.labels.specs.Labels.{same_label}
use Rattle.output.specs.Output.{Pattern}
use Rattle.subautomaton.specs.Inclusion.{is_same, has_state, covers, is_covered, is_subautomaton}

-- a transition between states 0 and 1
abbrev arrow : ℕ → ℕ → ℕ → ℕ → ℕ → Transition
arrow from kind first last to = record { from = from; kind = kind; first = first; last = last; to = to }

-- the states p, q and q, of which the second accepts, with the start s and the transitions es
abbrev pattern : ℕ → List Transition → Pattern
pattern s es = record { automaton = record { size = 3; start = s; accept = 0 ∷ 1 ∷ 0 ∷ []; transitions = es }; labels = (112 ∷ []) ∷ (113 ∷ []) ∷ (113 ∷ []) ∷ [] }

-- (0, 9) covers (2, 9), also between other states of the same labels, and not (2, 10); a range covers no epsilon; another start
examples :
    (is_subautomaton (pattern 0 (arrow 0 1 2 9 1 ∷ [])) (pattern 0 (arrow 0 1 0 9 1 ∷ [])) ≡ true)
    × (is_subautomaton (pattern 0 (arrow 0 1 2 9 1 ∷ [])) (pattern 0 (arrow 0 1 0 9 2 ∷ [])) ≡ true)
    × (is_subautomaton (pattern 0 (arrow 0 1 2 10 1 ∷ [])) (pattern 0 (arrow 0 1 0 9 1 ∷ [])) ≡ false)
    × (is_subautomaton (pattern 0 (arrow 0 0 0 0 1 ∷ [])) (pattern 0 (arrow 0 1 0 9 1 ∷ [])) ≡ false)
    × (is_subautomaton (pattern 0 (arrow 0 0 0 0 1 ∷ [])) (pattern 0 (arrow 0 0 0 0 1 ∷ [])) ≡ true)
    × (is_subautomaton (pattern 1 []) (pattern 2 []) ≡ true)
    × (is_subautomaton (pattern 0 []) (pattern 1 []) ≡ false)
unfolding is_subautomaton all states tabulate has_state any is_same same_label is_covered covers
examples = (refl, refl, refl, refl, refl, refl, refl)
