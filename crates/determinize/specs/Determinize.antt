-- Determinizing (document 01, "Determinizing"): the table of the nonempty sets that words reach, and the automaton made from it. `lower` and `upper` are
-- the least and the greatest symbol.
use Rattle.std.specs.Prelude.{ℕ, suc, ◌-◌, not, List, [], ◌∷◌, ◌++◌, map, length}
use Rattle.lists.specs.Lists.{filter}
use Rattle.automata.specs.Automaton.{Transition, Automaton}
use Rattle.automata.specs.WellFormed.{most_states}
use Rattle.search.specs.Search
use Rattle.search.specs.Search.{Graph, SearchResult, over, found}
use Rattle.lists.specs.Index.{index, same}
use Rattle.sets.specs.Sets.{Set, is_empty}
use Rattle.words.specs.Simulation.{outgoing, step, start_set, kind_of}
use Rattle.ranges.specs.Span.{Span}
use Rattle.ranges.specs.Cuts.{cut_all}
use Rattle.output.specs.Output.{transitions_first}
use Rattle.refusal.specs.Answer.{Answer, refused, given}
use Rattle.determinize.specs.Partition.{partition}

-- the sets to which the parts of S lead, parts ascending
unfoldable pub set_targets : ℕ → ℕ → Automaton → Set → List Set
set_targets lower upper A S = map (λ p. step A S p.first) (partition A.size lower upper (outgoing A S))

-- those that are not empty
unfoldable pub nonempty_of : List Set → List Set
nonempty_of Rs = filter (λ R. not (is_empty R)) Rs

-- the nonempty sets, from the start's closure on, each with those to which its parts lead
unfoldable pub subsets : ℕ → ℕ → Automaton → Graph Set
subsets lower upper A = record { same = same; next = λ S. nonempty_of (set_targets lower upper A S); start = start_set A }

-- the nonempty sets that words reach, as a queue meets them; `over` where they and the sink are more than 256
unfoldable pub set_table : ℕ → ℕ → Automaton → SearchResult Set
set_table lower upper A = Search.table (subsets lower upper A) (most_states - 1)

-- The states of the result are the sets of the table, and the empty set for the sink, which is the last. The table doesn't have the empty set, so
-- that the index of the empty set is the sink.
unfoldable pub sets_and_sink : List Set → List Set
sets_and_sink T = T ++ [] ∷ []

-- state j, which is the set S, has a transition for each span between cuts. No range leaves the sink, so that it has one for all symbols.
unfoldable pub set_transition : Automaton → List Set → ℕ → Set → Span → Transition
set_transition A T j S s = record { from = j; kind = 1; first = s.first; last = s.last; to = index same (step A S s.first) T }

unfoldable pub set_transitions : ℕ → ℕ → Automaton → List Set → ℕ → Set → List Transition
set_transitions lower upper A T j S = map (set_transition A T j S) (cut_all lower upper (outgoing A S))

-- the transitions of the states from j on, which are the sets Ss
unfoldable pub set_transitions_from : ℕ → ℕ → Automaton → List Set → ℕ → List Set → List Transition
set_transitions_from lower upper A T j [] = []
set_transitions_from lower upper A T j (S ∷ Ss) = set_transitions lower upper A T j S ++ set_transitions_from lower upper A T (suc j) Ss

-- the automaton of a finished table
unfoldable pub subset_automaton : ℕ → ℕ → Automaton → List Set → Automaton
subset_automaton lower upper A T = record {
  size = suc (length T);
  start = 0;
  accept = map (kind_of A) (sets_and_sink T);
  transitions = set_transitions_from lower upper A T 0 (sets_and_sink T);
}

-- 21 where there are too many sets, 22 where there are too many transitions
unfoldable pub subsets_answer : ℕ → ℕ → Automaton → SearchResult Set → Answer Automaton
subsets_answer lower upper A over = refused 21
subsets_answer lower upper A (found T) = transitions_first (subset_automaton lower upper A T) (given (subset_automaton lower upper A T))

unfoldable pub determinize : ℕ → ℕ → Automaton → Answer Automaton
determinize lower upper A = subsets_answer lower upper A (set_table lower upper A)
