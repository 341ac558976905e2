-- For inner contracts. The tables of a sheet and its labels: which states are written, where each label stands, and lists of states.
use Rattle.std.specs.Prelude.{ℕ, ◌≤◌, ◌<◌, cond, List, [], map, ◌≡◌, ltb, length, get_or}
use Rattle.std.proofs.lemmas.List.Edits.{sets}
use Rattle.automata.specs.Automaton.{Automaton, accept_of}
use Rattle.labels.specs.Labels.{label_count, labels_fault, read_labels}
use Rattle.labels.specs.inner.Places.{label_place}
use Rattle.lists.specs.Lists.{filter, tabulate}
use Rattle.sheets.specs.Sheet.{state_count, read}
use Rattle.sheets.specs.inner.Accepted.{Accepted}
use Rattle.writer.specs.Text.{is_written, accepting_states}

-- 1 for each written state, and 0 for all others up to 256
unfoldable pub written_marks : Automaton → List ℕ
written_marks A = tabulate 256 (λ q. cond (is_written A q) 1 0)

-- the places of the first n labels, at the front of the memory
unfoldable pub places_below : List ℕ → List ℕ → ℕ → List ℕ
places_below b memory n = sets memory 0 (tabulate n (label_place b))

-- an accepted list of labels, and for each where its length stands
pub record LabelPlaces (b places : List ℕ) : Type 0 where
  pub accepted : labels_fault (label_count b) b ≡ 0
  pub few : label_count b ≤ 256
  pub long : length places ≡ 256
  pub at : (q : ℕ) → q < label_count b → get_or places q 0 ≡ label_place b q

-- states below n
pub record StatesBelow (n : ℕ) (qs : List ℕ) : Type 0 where
  pub at : (i : ℕ) → i < length qs → get_or qs i 0 < n

-- a sheet and its labels, and the written states that accept, of which there are some
pub record TextTables (s b qs : List ℕ) : Type 0 where
  pub sheet : Accepted s
  pub labels : labels_fault (state_count s) b ≡ 0
  pub accepting : qs ≡ accepting_states (read s)
  pub some : 0 < length qs

-- those of some states that accept
unfoldable pub accepting_among : Automaton → List ℕ → List ℕ
accepting_among A qs = filter (λ q. ltb 0 (accept_of A q)) qs

-- the labels of states
unfoldable pub state_labels : List ℕ → List ℕ → List (List ℕ)
state_labels b qs = map (λ q. get_or (read_labels b) q []) qs
