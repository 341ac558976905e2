-- The answers of the operations, refusals first in document 01's order, and the answers of the code as these.
use Rattle.std.specs.Prelude.{ℕ, cond, List, [], ◌∷◌, ◌++◌}
use Rattle.automata.specs.Automaton.{Automaton}
use Rattle.labels.specs.Labels.{read_labels}
use Rattle.labels.specs.Forms.{sink_label}
use Rattle.nondeterminism.specs.Nondeterminism.{is_nfa}
use Rattle.output.specs.Output.{Pattern, room_first, labels_first, states_first, transitions_first}
use Rattle.refusal.specs.Answer.{Answer, given}
use Rattle.sheets.specs.Checked.{sheet_first}
use Rattle.sheets.specs.Sheet.{state_count, read}
use Rattle.totality.specs.Totality.{totalized, complemented}

-- 21 where there are too many states, 22 where there are too many transitions, or else the result
unfoldable pub limited : Pattern → Answer Pattern
limited P = states_first P.automaton (transitions_first P.automaton (given P))

-- the totalized automaton, and `sink` behind the labels
unfoldable pub total_pattern : ℕ → ℕ → Automaton → List (List ℕ) → Pattern
total_pattern lower upper A ls = record { automaton = totalized lower upper A; labels = ls ++ sink_label ∷ [] }

-- of the sheet s with the labels b into the outputs o and l: 20, the sheet's faults, the labels', then 21 and 22
unfoldable pub totalize_answer : ℕ → ℕ → List ℕ → List ℕ → List ℕ → List ℕ → Answer Pattern
totalize_answer lower upper s b o l = room_first o l (sheet_first s (labels_first (state_count s) b (limited (total_pattern lower upper (read s) (read_labels b)))))

-- the complement, and `sink` behind the labels where it totalizes
unfoldable pub complement_pattern : ℕ → ℕ → Automaton → List (List ℕ) → Pattern
complement_pattern lower upper A ls = record { automaton = complemented lower upper A; labels = cond (is_nfa lower upper A) (ls ++ sink_label ∷ []) ls }

unfoldable pub complement_answer : ℕ → ℕ → List ℕ → List ℕ → List ℕ → List ℕ → Answer Pattern
complement_answer lower upper s b o l = room_first o l (sheet_first s (labels_first (state_count s) b (limited (complement_pattern lower upper (read s) (read_labels b)))))
