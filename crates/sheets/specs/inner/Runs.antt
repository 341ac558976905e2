-- For inner contracts. The runs of the states: where the records of each state begin.
use Rattle.std.specs.Prelude.{ℕ, suc, ◌+◌, ◌-◌, ◌*◌, ◌≤◌, ◌<◌, List, ◌≡◌, ltb, length, get_or, take, drop}
use Rattle.std.proofs.lemmas.List.Edits.{sets}
use Rattle.lists.specs.Lists.{◌∈◌, filter, tabulate, Ascending}
use Rattle.automata.specs.Automaton.{Transition, leaving}
use Rattle.automata.specs.Records.{read_records, write_records}
use Rattle.sheets.specs.Sheet.{state_count, records_at, read}
use Rattle.sheets.specs.inner.Accepted.{Accepted}

-- how many of the transitions leave a state below q
unfoldable pub below : ℕ → List Transition → ℕ
below q es = length (filter (λ e. ltb e.from q) es)

-- for each state, and one past the last, the place of its first record
unfoldable pub starts_of : List ℕ → List ℕ
starts_of s = tabulate (suc (state_count s)) (λ q. records_at s + 5 * below q (read s).transitions)

-- old, with the first q entries of that table at its front
unfoldable pub starts_below : List ℕ → List ℕ → ℕ → List ℕ
starts_below s old q = sets old 0 (tabulate q (λ p. records_at s + 5 * below p (read s).transitions))

-- the states that the transitions leave ascend
abbrev pub Rising : List Transition → Type 0
Rising es = Ascending (λ d e. d.from ≤ e.from) es

-- an entry for each state and one past the last, of which none exceeds the number of records that leave a state below; and the first k records of t are
-- counted by the entries behind those of the states that they leave
pub record RunEnds (t ends : List ℕ) (k : ℕ) : Type 0 where
  pub long : length ends ≡ 257
  pub most : (q : ℕ) → get_or ends q 0 ≤ below q (read_records t)
  pub least : (j : ℕ) → j < k → j < get_or ends (get_or t (5 * j) 0 + 1) 0

-- starts is, at its front, the table `starts_of` of the sheet s
pub record Indexed (s starts : List ℕ) : Type 0 where
  pub long : state_count s < length starts
  pub at : (q : ℕ) → q ≤ state_count s → get_or starts q 0 ≡ records_at s + 5 * below q (read s).transitions

-- an accepted sheet and where the runs of its states begin
pub record IndexedSheet (s starts : List ℕ) : Type 0 where
  pub accepted : Accepted s
  pub indexed : Indexed s starts

-- the states that the transitions name are below n
pub record Named (n : ℕ) (es : List Transition) : Type 0 where
  pub froms : (e : Transition) → e ∈ es → e.from < n
  pub tos : (e : Transition) → e ∈ es → e.to < n

-- the records of state q stand in s where starts says
pub record RunAt (s starts : List ℕ) (q : ℕ) : Type 0 where
  pub known : q + 1 < length starts
  pub ordered : get_or starts q 0 ≤ get_or starts (q + 1) 0
  pub within : get_or starts (q + 1) 0 ≤ length s
  pub words : take (get_or starts (q + 1) 0 - get_or starts q 0) (drop (get_or starts q 0) s) ≡ write_records (leaving (read s) q)
