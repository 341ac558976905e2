-- Tables of sets: where a set stands.
use Prim.Native.Nat.{suc, ◌≤◌}
use mathlib.Core.Bool.{cond}
use mathlib.Core.List.{List, [], ◌∷◌, ◌++◌}
use mathlib.Core.Logic.{◌⊎◌, inl, inr}
use mathlib.Core.Path.{◌≡◌, ◌∙◌, ap}
use lib.ListN.{get_or, length}
use Rattle.lists.specs.Lists.{◌∈◌}
use Rattle.lists.specs.Index.{index, same}
use Rattle.lists.proofs.Index.{index_at, index_behind, index_default, same_decides}
use Rattle.sets.specs.Sets.{Set}

-- in the table, or empty: then the index leads to it
abbrev pub In : List Set → Set → Type 0
In T S = (S ≡ []) ⊎ (S ∈ T)

pub at_index : (T : List Set) (S : Set) → In T S → get_or T (index same S T) [] ≡ S
at_index T S (inl e) = rw e (index_default same same_decides [] T)
at_index T S (inr m) = index_at same same_decides [] S T m

-- a set behind a table that lacks it
pub index_end : (R : Set) (T : List Set) → length T ≤ index same R T → index same R (T ++ R ∷ []) ≡ length T
index_end R T h = index_behind same R R T h ∙ ap (λ b. cond b (length T) (suc (length T))) (same_decides.same_self R)
