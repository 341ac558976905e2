-- For inner contracts. What holds of a table's rows while they are closed.
use Rattle.std.specs.Prelude.{ℕ, ◌+◌, ◌*◌, ◌<◌, Bool, ◌||◌, List, ◌≡◌, ltb}
use Rattle.sets.specs.Sets.{Set}
use Rattle.sets.specs.inner.Members.{Canon, next_member}
use Rattle.sets.specs.inner.BitSet.{set_at, entries}
use Rattle.sets.specs.Closure.{closed}

-- the first n rows are sets of states below n
pub record RowsBelow (t : List ℕ) (n : ℕ) : Type 0 where
  pub row : (j : ℕ) → j < n → Canon n (set_at t (4 * j))

-- the rows of u are those of t after k rounds
pub record ClosedTo (t u : List ℕ) (n k : ℕ) : Type 0 where
  pub rows : entries u n ≡ closed n k (entries t n)
  pub below : RowsBelow u n

-- the row S of state k has a member other than k
unfoldable pub leads_on : ℕ → Set → Bool
leads_on k S = ltb (next_member S 0) k || ltb (next_member S (k + 1)) 256
