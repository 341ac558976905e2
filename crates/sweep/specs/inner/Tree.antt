-- For inner contracts. A binary tree of sets in 512 rows of four words: row k has what rows 2 k and 2 k + 1 have, so that row 1 has what all leaves have. The leaves
-- are rows 256 to 511, one for each state.
use Rattle.std.specs.Prelude.{ℕ, ◌+◌, ◌*◌, ◌/◌, ◌≤◌, ◌<◌, ◌||◌, List, ◌≡◌, length}
use Rattle.sets.specs.Sets.{Set, has, pick}
use Rattle.sets.specs.inner.BitSet.{set_at}

-- the union of two sets
unfoldable pub union : Set → Set → Set
union S T = pick 256 (λ q. has q S || has q T)

-- row k has what the two rows below it have
pub record Node (t : List ℕ) (k : ℕ) : Type 0 where
  pub joined : set_at t (4 * k) ≡ union (set_at t (4 * (2 * k))) (set_at t (4 * (2 * k + 1)))

pub record Tree (t : List ℕ) : Type 0 where
  pub long : length t ≡ 2048
  pub node : (k : ℕ) → 1 ≤ k → k < 256 → Node t k

-- a tree but for the node above row i
pub record Almost (t : List ℕ) (i : ℕ) : Type 0 where
  pub long : length t ≡ 2048
  pub node : (k : ℕ) → 1 ≤ k → k < 256 → (k ≡ i / 2 → ⊥) → Node t k

-- row k of u has what the two rows below it have, and the other rows are those of t
pub record NodeUpdated (t u : List ℕ) (k : ℕ) : Type 0 where
  pub node : Node u k
  pub others : (i : ℕ) → (i ≡ k → ⊥) → set_at u (4 * i) ≡ set_at t (4 * i)

-- the leaf of state q
unfoldable pub leaf : List ℕ → ℕ → Set
leaf t q = set_at t (4 * (256 + q))

-- u is a tree with the leaves of t
pub record Climbed (t u : List ℕ) : Type 0 where
  pub tree : Tree u
  pub leaves : (q : ℕ) → leaf u q ≡ leaf t q

-- u is a tree with the leaves of t, but the leaf of q is S
pub record LeafSet (t u : List ℕ) (q : ℕ) (S : Set) : Type 0 where
  pub tree : Tree u
  pub here : leaf u q ≡ S
  pub others : (p : ℕ) → (p ≡ q → ⊥) → leaf u p ≡ leaf t p
