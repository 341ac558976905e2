-- For inner contracts. Transitions in order stand in rows of one trigger each: the first of each row.
use Rattle.std.specs.Prelude.{ℕ, ◌+◌, ◌<◌, ◌≤◌, cond, List, [], ◌∷◌, ◌≡◌, length, get_or, drop}
use Rattle.automata.specs.Automaton.{Transition}
use Rattle.automata.specs.inner.Chunks.{records_of}
use Rattle.automata.specs.inner.Records.{record_at}
use Rattle.automata.specs.WellFormed.{Lex}
use Rattle.equivalence.specs.Triggers.{same_trigger}

-- from the first on whose trigger is not that of d
unfoldable pub behind_row : Transition → List Transition → List Transition
behind_row d [] = []
behind_row d (e ∷ es) = cond (same_trigger d e) (behind_row d es) (e ∷ es)

-- the first of each row, where es stand behind d
unfoldable pub leaders_behind : Transition → List Transition → List Transition
leaders_behind d [] = []
leaders_behind d (e ∷ es) = cond (same_trigger d e) (leaders_behind d es) (e ∷ leaders_behind e es)

unfoldable pub leaders : List Transition → List Transition
leaders [] = []
leaders (d ∷ ds) = d ∷ leaders_behind d ds

-- the order of triggers
abbrev pub Lower : Transition → Transition → Type 0
Lower d e = Lex (d.kind ∷ d.first ∷ d.last ∷ []) (e.kind ∷ e.first ∷ e.last ∷ [])

-- r is the place behind the row of record `at` of rs
pub record RowEnd (rs : List (List ℕ)) (at r : ℕ) : Type 0 where
  pub onward : at < r
  pub inside : r ≤ length rs
  pub rest : records_of (drop r rs) ≡ behind_row (record_at (get_or rs at []) 0) (records_of (drop (at + 1) rs))
