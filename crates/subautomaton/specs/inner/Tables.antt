-- For inner contracts. What the code holds: for each state the number of its label among the different labels of the second automaton, and tests by
-- these numbers.
use Rattle.std.specs.Prelude.{ℕ, ◌≤◌, ◌<◌, Bool, ◌&&◌, ◌||◌, List, [], ◌≡◌, eqb, leb, ltb, length, get_or}
use Rattle.lists.specs.Lists.{any, Ascending}
use Rattle.automata.specs.Automaton.{Transition, Automaton, states, leaving, accept_of}
use Rattle.labels.specs.Labels.{same_label, labels_fault, read_labels}
use Rattle.lists.specs.Index.{index}
use Rattle.name_table.specs.inner.Names.{names_in, Table}
use Rattle.search.specs.Search.{meet}
use Rattle.sheets.specs.inner.Accepted.{Accepted}
use Rattle.sheets.specs.inner.Runs.{Named, Indexed}
use Rattle.sheets.specs.Sheet.{state_count}

-- the different labels of a list in order of appearance
unfoldable pub distinct_labels : List ℕ → List (List ℕ)
distinct_labels b = meet same_label (read_labels b) []

-- the table t has them, as many as n
pub record LabelTable (b t : List ℕ) (n : ℕ) : Type 0 where
  pub table : Table b t n
  pub names : names_in b t n ≡ distinct_labels b

-- c has the numbers of the first m labels of ks among the labels ls; a label that is none of them has the number of labels
pub record Numbered (m : ℕ) (ks ls : List (List ℕ)) (c : List ℕ) : Type 0 where
  pub long : length c ≡ 256
  pub at : (i : ℕ) → i < m → get_or c i 0 ≡ index same_label (get_or ks i []) ls

-- the state q of B has the number k, and accepts unless a is 0
unfoldable pub is_held : Automaton → List ℕ → ℕ → ℕ → ℕ → Bool
is_held B cb k a q = eqb (get_or cb q 0) k && (eqb a 0 || ltb 0 (accept_of B q))

-- a state of B is held so for the state p of A
unfoldable pub is_held_in : Automaton → Automaton → List ℕ → List ℕ → ℕ → Bool
is_held_in A B ca cb p = any (is_held B cb (get_or ca p 0) (accept_of A p)) (states B.size)

-- e leads to a state with the number to, and its kind and range cover those of d
unfoldable pub fits : List ℕ → ℕ → Transition → Transition → Bool
fits cb to d e = eqb (get_or cb e.to 0) to && (eqb e.kind d.kind && (leb e.first d.first && leb d.last e.last))

-- the records of a run: the states that they name are below 256, and none starts before an earlier one
pub record Ordered (es : List Transition) : Type 0 where
  pub named : Named 256 es
  pub rises : Ascending (λ d e. d.first ≤ e.first) es

-- the state q has the number from, and one of its transitions covers d
unfoldable pub fits_from : Automaton → List ℕ → ℕ → ℕ → Transition → ℕ → Bool
fits_from B cb from to d q = eqb (get_or cb q 0) from && any (fits cb to d) (leaving B q)

-- some state has one
unfoldable pub fits_in : Automaton → List ℕ → List ℕ → Transition → Bool
fits_in B ca cb d = any (fits_from B cb (get_or ca d.from 0) (get_or ca d.to 0) d) (states B.size)

-- two sheets with their labels
pub record LabelledSheets (a al b bl : List ℕ) : Type 0 where
  pub first : Accepted a
  pub second : Accepted b
  pub first_labels : labels_fault (state_count a) al ≡ 0
  pub second_labels : labels_fault (state_count b) bl ≡ 0

-- and with the tables of both
pub record Tabled (a al b bl starts ca cb : List ℕ) : Type 0 where
  pub inputs : LabelledSheets a al b bl
  pub indexed : Indexed b starts
  pub numbered_a : Numbered (state_count a) (read_labels al) (distinct_labels bl) ca
  pub numbered_b : Numbered (state_count b) (read_labels bl) (distinct_labels bl) cb
