-- The join sets that the test program makes: the deepest chain, and sets with one element changed.
use Rattle.std.specs.Prelude.{ℕ, zero, suc, List, [], ◌∷◌, ◌++◌, slice_set}
use Rattle.dsu.specs.declared.DSU.{DSU}
use Rattle.dsu.specs.Sets.{fresh}
use Rattle.dsu.specs.inner.Lent.{sets_of}

-- 1, 2, .., n
unfoldable pub one_to : ℕ → List ℕ
one_to zero = []
one_to (suc n) = one_to n ++ suc n ∷ []

-- 512 elements; the parent of each is the next, the parent of the last is given, and the size at i is i + 1
unfoldable pub chain_to : ℕ → DSU
chain_to last = sets_of (slice_set (one_to 512) 511 last) (one_to 512) 512

-- sets of n whose elements are alone, but for the parent and the size at element 1
unfoldable pub with_one : ℕ → ℕ → ℕ → DSU
with_one n parent own = sets_of (slice_set (fresh 8).repr 1 parent) (slice_set (fresh 8).size 1 own) n
