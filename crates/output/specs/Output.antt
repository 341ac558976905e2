-- What an operation leaves in the two lent outputs (document 01, "The sheet" and "Labels"): a sheet at the front of one, its
-- labels at the front of the other, and all else unchanged; after a refusal everything is.
use Rattle.std.specs.Prelude.{ℕ, cond, List, [], eqb, ltb, length, get_or}
use Rattle.std.proofs.lemmas.List.Edits.{sets}
use Rattle.automata.specs.Automaton.{Automaton}
use Rattle.automata.specs.WellFormed.{most_states, most_transitions}
use Rattle.labels.specs.Labels.{read_labels, write_labels, labels_fault}
use Rattle.refusal.specs.Answer.{Answer, refused}
use Rattle.refusal.specs.Outcome.{Outcome, outcome, length_first}
use Rattle.sheets.specs.Sheet.{read, write}

-- an automaton and a label for each of its states
pub record Pattern : Type 0 where
  pub automaton : Automaton
  pub labels : List (List ℕ)

-- the label of the state q
abbrev pub label_of : Pattern → ℕ → List ℕ
label_of P q = get_or P.labels q []

-- a sheet with its label list
abbrev pub read_pattern : List ℕ → List ℕ → Pattern
read_pattern s l = record { automaton = read s; labels = read_labels l }

-- how many words and how many bytes an output takes
pub record Lengths : Type 0 where
  pub words : ℕ
  pub bytes : ℕ

-- what an operation answers of a pattern
abbrev pub lengths_of : Pattern → Lengths
lengths_of P = record { words = length (write P.automaton); bytes = length (write_labels P.labels) }

-- what is lent for the outputs
pub record Outputs : Type 0 where
  pub sheet : List ℕ
  pub labels : List ℕ

-- a pattern stored at the fronts of the outputs
abbrev pub stored : Outputs → Pattern → Outputs
stored m P = record { sheet = sets m.sheet 0 (write P.automaton); labels = sets m.labels 0 (write_labels P.labels) }

-- the outcome of an answer, where o and l are lent for the outputs
unfoldable pub outputs : List ℕ → List ℕ → Answer Pattern → Outcome Lengths Outputs
outputs o l a = outcome lengths_of stored (record { sheet = o; labels = l }) a

-- the fixed sizes of the outputs
abbrev pub sheet_size : ℕ
sheet_size = 10500

abbrev pub labels_size : ℕ
labels_size = 16642

-- 20 where an output is too short, or else the answer a
unfoldable pub room_first : {X : Type 0} → List ℕ → List ℕ → Answer X → Answer X
room_first o l a = length_first sheet_size o (length_first labels_size l a)

-- 21 where A has over 256 states, or else the answer a
unfoldable pub states_first : {X : Type 0} → Automaton → Answer X → Answer X
states_first A a = cond (ltb most_states A.size) (refused 21) a

-- 22 where A has over 2,048 transitions, or else the answer a
unfoldable pub transitions_first : {X : Type 0} → Automaton → Answer X → Answer X
transitions_first A a = cond (ltb most_transitions (length A.transitions)) (refused 22) a

-- the fault of b as the labels of n states, or else the answer a
unfoldable pub labels_first : {X : Type 0} → ℕ → List ℕ → Answer X → Answer X
labels_first n b a = cond (eqb (labels_fault n b) 0) a (refused (labels_fault n b))
