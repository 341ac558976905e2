-- For inner contracts. The pass as the code holds it: lists of the numbers of ranges, the reaches in r, and the sets of the targets as the leaves of a tree.
use Rattle.std.specs.Prelude.{ℕ, ◌+◌, ◌*◌, ◌≤◌, ◌<◌, min, cond, List, [], ◌≡◌, leb, length, get_or, set, drop}
use Rattle.sets.specs.Sets.{Set}
use Rattle.sets.specs.inner.BitSet.{set_at}
use Rattle.sheets.specs.inner.Accepted.{Accepted}
use Rattle.sheets.specs.Sheet.{state_count, read}
use Rattle.words.specs.Simulation.{closure, outgoing}
use Rattle.sweep.specs.inner.Events.{RecordNumbers, event_at, events_at}
use Rattle.sweep.specs.inner.Tree.{Tree, leaf, LeafSet}
use Rattle.sweep.specs.inner.Sweep.{Mine, Passes}

-- the sheet s is accepted, and c has the closures of its states
pub record Closed (s c : List ℕ) : Type 0 where
  pub accepted : Accepted s
  pub long : 4 * state_count s ≤ length c
  pub rows : (q : ℕ) → q < state_count s → set_at c (4 * q) ≡ closure (read s) q

-- the row of state q in the table c
unfoldable pub row : List ℕ → ℕ → Set
row c q = set_at c (4 * q)

-- the pass over the ranges that leave S, at the symbol a: the openings from i on and the endings from j on are left
pub record Passing (s c opens ends : List ℕ) (S : Set) (i j a : ℕ) (r t : List ℕ) : Type 0 where
  pub closed : Closed s c
  pub opens_below : RecordNumbers s opens
  pub ends_below : RecordNumbers s ends
  pub in_opens : i ≤ length opens
  pub in_ends : j ≤ length ends
  pub long : length r ≡ 256
  pub tree : Tree t
  pub passes : Passes (outgoing (read s) S) S (events_at 0 s opens) (events_at 1 s ends) (events_at 0 s (drop i opens)) (events_at 1 s (drop j ends)) a r (row c) (leaf t)

-- the event at `at`, if there is one, is the next of S, and lies above a
pub record Stopped (k : ℕ) (s ev : List ℕ) (S : Set) (at a : ℕ) : Type 0 where
  pub mine : at < length ev → Mine S (event_at k s (get_or ev at 0))
  pub above : at < length ev → a < (event_at k s (get_or ev at 0)).from + k

-- what is noted at the symbol a of a range to q that has opened and ends at l: nothing where it has ended or the target reaches as far, or else
-- the target's reach, and its set where the target was not live
pub data RangeNoted (c : List ℕ) (a l q : ℕ) (r t : List ℕ) : List ℕ → List ℕ → Type 0 where
  over : l < a → RangeNoted c a l q r t r t
  known : l < get_or r q 0 → RangeNoted c a l q r t r t
  longer : a ≤ l → get_or r q 0 ≤ l → a < get_or r q 0 → RangeNoted c a l q r t (set r q (l + 1)) t
  begun : {u : List ℕ} → a ≤ l → get_or r q 0 ≤ l → LeafSet t u q (set_at c (4 * q)) → RangeNoted c a l q r t (set r q (l + 1)) u

-- what the end of a range to q does to the tree, at the symbol a: nothing where the target is live, or else its set is empty
pub data Closes (a q : ℕ) (r t : List ℕ) : List ℕ → Type 0 where
  held : a < get_or r q 0 → Closes a q r t t
  empty : {u : List ℕ} → get_or r q 0 ≤ a → LeafSet t u q [] → Closes a q r t u

-- the symbol of the event at `at` plus k, or top if that is less or there is none
unfoldable pub cut_at : ℕ → List ℕ → List ℕ → ℕ → ℕ → ℕ
cut_at k s ev at top = cond (leb (length ev) at) top (min ((event_at k s (get_or ev at 0)).from + k) top)
