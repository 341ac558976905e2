-- For inner contracts. Join sets whose arrays are lent.
use Rattle.std.specs.Prelude.{ℕ, ◌<◌, List, ◌≡◌, Bool, true, false}
use Rattle.dsu.specs.declared.DSU.{DSU}
use Rattle.dsu.specs.inner.Generated.{Merges}
use Rattle.dsu.specs.Laws.{class_of, Same, Valid}

-- e is d after a `join_in` of x and y, which says whether the two were apart: they were not, and no class changed; or they were, and their classes are one now
pub data JoinLaw (d e : DSU) (x y : ℕ) : Bool → Type 0 where
  old : Valid e → e.n ≡ d.n → Same d x y → ((z : ℕ) → z < d.n → class_of e z ≡ class_of d z) → JoinLaw d e x y false
  new : Valid e → e.n ≡ d.n → Merges d.n (class_of d) (class_of e) x y → JoinLaw d e x y true

-- the sets with these parents and sizes
abbrev pub sets_of : List ℕ → List ℕ → ℕ → DSU
sets_of repr size n = record { repr = repr; size = size; n = n }
