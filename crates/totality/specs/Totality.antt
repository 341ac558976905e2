-- `totalize` and `complement` on automata (document 01, "Product, totality, complement, emptiness"). `lower` and `upper` are the least and the
-- greatest symbol.
use Rattle.std.specs.Prelude.{ℕ, ◌+◌, cond, eqb, length}
use mathlib.Core.List.{List, [], ◌∷◌, ◌++◌, map, flat_map}
use Rattle.automata.specs.Automaton.{Transition, Automaton, states, leaving}
use Rattle.automata.specs.Ordered.{in_order}
use Rattle.nondeterminism.specs.Nondeterminism.{holes_of, holes_in, is_nfa}
use Rattle.ranges.specs.Span.{Span}

-- a hole of the state q, led to the sink
abbrev pub hole_to : ℕ → ℕ → Span → Transition
hole_to sink q s = record { from = q; kind = 1; first = s.first; last = s.last; to = sink }

-- transitions of the state q with their holes led to the sink
unfoldable pub filled : ℕ → ℕ → ℕ → ℕ → List Transition → List Transition
filled lower upper sink q es = in_order (es ++ map (hole_to sink q) (holes_of lower upper es))

-- those of the states qs
unfoldable pub filled_in : ℕ → ℕ → Automaton → List ℕ → List Transition
filled_in lower upper A qs = flat_map (λ q. filled lower upper A.size q (leaving A q)) qs

-- the sink's transition to itself
abbrev pub loop_on : ℕ → ℕ → ℕ → Transition
loop_on lower upper sink = record { from = sink; kind = 1; first = lower; last = upper; to = sink }

-- the sink is added as the last state: it rejects, and loops on all symbols
unfoldable pub totalized : ℕ → ℕ → Automaton → Automaton
totalized lower upper A = record {
  size = A.size + 1;
  start = A.start;
  accept = A.accept ++ 0 ∷ [];
  transitions = filled_in lower upper A (states A.size) ++ loop_on lower upper A.size ∷ [];
}

-- how many transitions that has: those kept, the holes and the sink's loop
unfoldable pub transition_count : ℕ → ℕ → Automaton → ℕ
transition_count lower upper A = length A.transitions + length (holes_in lower upper A (states A.size)) + 1

-- a rejecting state accepts, and an accepting one rejects
abbrev pub other_word : ℕ → ℕ
other_word x = cond (eqb x 0) 1 0

unfoldable pub flipped : Automaton → Automaton
flipped A = record { size = A.size; start = A.start; accept = map other_word A.accept; transitions = A.transitions }

unfoldable pub complemented : ℕ → ℕ → Automaton → Automaton
complemented lower upper A = flipped (cond (is_nfa lower upper A) (totalized lower upper A) A)
