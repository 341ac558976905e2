-- Sets of states: ascending lists. A set is made only by `pick`, so sets with the same members are the same list.
use Rattle.std.specs.Prelude.{ℕ, zero, suc, Bool, true, false, cond, ◌||◌, List, [], ◌∷◌, eqb}

abbrev pub Set : Type 0
Set = List ℕ

unfoldable pub has : ℕ → Set → Bool
has q [] = false
has q (x ∷ S) = eqb q x || has q S

-- of the n numbers from k on those that pass
unfoldable pub pick_from : ℕ → ℕ → (ℕ → Bool) → Set
pick_from k zero P = []
pick_from k (suc n) P = cond (P k) (k ∷ pick_from (suc k) n P) (pick_from (suc k) n P)

abbrev pub pick : ℕ → (ℕ → Bool) → Set
pick n P = pick_from 0 n P

unfoldable pub is_empty : Set → Bool
is_empty [] = true
is_empty (x ∷ S) = false
