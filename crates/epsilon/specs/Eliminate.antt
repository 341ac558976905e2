-- Epsilon elimination (document 01, "Beside the equality"): the same states and start, each state with the ranges and the
-- acceptance of its closure, equal transitions once.
use Rattle.std.specs.Prelude.{ℕ}
use mathlib.Core.List.{List, map, flat_map}
use Rattle.lists.specs.Lists.{tabulate}
use Rattle.automata.specs.Automaton.{Transition, Automaton, states, leaving, ranges_of}
use Rattle.automata.specs.Ordered.{in_order}
use Rattle.labels.specs.Labels.{read_labels}
use Rattle.output.specs.Output.{Pattern, room_first, labels_first, transitions_first}
use Rattle.refusal.specs.Answer.{Answer, given}
use Rattle.sets.specs.Sets.{Set}
use Rattle.sheets.specs.Checked.{sheet_first}
use Rattle.sheets.specs.Sheet.{state_count, read}
use Rattle.words.specs.Simulation.{closure, kind_of}

-- the transition e as one of state p
abbrev pub leaving_from : ℕ → Transition → Transition
leaving_from p e = record { from = p; kind = e.kind; first = e.first; last = e.last; to = e.to }

-- the ranges among the transitions, as transitions of state p
unfoldable pub moved_to : ℕ → List Transition → List Transition
moved_to p es = map (leaving_from p) (ranges_of es)

-- the ranges that leave the states of S, as transitions of state p
unfoldable pub ranges_from : Automaton → ℕ → Set → List Transition
ranges_from A p S = flat_map (λ q. moved_to p (leaving A q)) S

-- the ranges of the closure of p, as transitions of p
unfoldable pub closure_ranges : Automaton → ℕ → List Transition
closure_ranges A p = ranges_from A p (closure A p)

-- the accept words of the closures of the first n states
unfoldable pub closure_kinds : Automaton → ℕ → List ℕ
closure_kinds A n = tabulate n (λ p. kind_of A (closure A p))

-- the automaton without its epsilons: the same states and start, each with the ranges and the acceptance of its closure
unfoldable pub eliminated : Automaton → Automaton
eliminated A = record {
  size = A.size;
  start = A.start;
  accept = closure_kinds A A.size;
  transitions = in_order (flat_map (closure_ranges A) (states A.size));
}

-- 22 where there are too many transitions, or else the eliminated automaton with the labels ls
unfoldable pub eliminated_with : Automaton → List (List ℕ) → Answer Pattern
eliminated_with A ls = transitions_first (eliminated A) (given (record { automaton = eliminated A; labels = ls }))

-- the answer for the sheet s and its labels b, which are kept, into the outputs o and l: 20, the sheet's faults, the labels', then 22
unfoldable pub eliminate_answer : List ℕ → List ℕ → List ℕ → List ℕ → Answer Pattern
eliminate_answer s b o l = room_first o l (sheet_first s (labels_first (state_count s) b (eliminated_with (read s) (read_labels b))))
