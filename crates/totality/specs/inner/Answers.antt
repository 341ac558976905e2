-- For inner contracts. What the code of the operations is told by.
use Rattle.std.specs.Prelude.{ℕ, Bool, true, List, [], ◌∷◌, ◌++◌, Result, Ok, Err}
use Rattle.automata.specs.Automaton.{Automaton}
use Rattle.labels.specs.Forms.{sink_label}
use Rattle.output.specs.Output.{Pattern, room_first, labels_first}
use Rattle.refusal.specs.Answer.{Answer, refused, given}
use Rattle.refusal.specs.Number.{number_of}
use Rattle.refusal.specs.declared.Refusal.{Refusal}
use Rattle.sheets.specs.Checked.{sheet_first}
use Rattle.sheets.specs.Sheet.{state_count}
use Rattle.totality.specs.inner.Merging.{flipped_if}
use Rattle.totality.specs.Totality.{totalized, flipped}

-- the totalized automaton with acceptance flipped, or not, and `sink` behind the labels
unfoldable pub total_pattern_flipped_if : Bool → ℕ → ℕ → Automaton → List (List ℕ) → Pattern
total_pattern_flipped_if flip lower upper A ls = record { automaton = flipped_if flip (totalized lower upper A); labels = ls ++ sink_label ∷ [] }

-- the automaton itself with acceptance flipped
unfoldable pub flipped_pattern : Automaton → List (List ℕ) → Pattern
flipped_pattern A ls = record { automaton = flipped A; labels = ls }

-- 20, the sheet's fault, the labels' fault, or else the answer a
unfoldable pub inputs_first : {X : Type 0} → List ℕ → List ℕ → List ℕ → List ℕ → Answer X → Answer X
inputs_first s b o l a = room_first o l (sheet_first s (labels_first (state_count s) b a))

-- no refusal
abbrev pub passed : Answer Bool
passed = given true

-- the answer of the code that checks the inputs
abbrev pub inputs_of : Result (Unit {0}) Refusal → Answer Bool
inputs_of (Ok _) = passed
inputs_of (Err r) = refused (number_of r)
