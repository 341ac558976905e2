-- Where an element stands in a list, by a test of equality; and that test for lists of numbers.
use Rattle.std.specs.Prelude.{ℕ, suc, Bool, true, false, cond, ◌&&◌, List, [], ◌∷◌, eqb}

-- the place of the first element that is x, or the length of the list
unfoldable pub index : {X : Type 0} → (X → X → Bool) → X → List X → ℕ
index same x [] = 0
index same x (y ∷ T) = cond (same x y) 0 (suc (index same x T))

-- two lists of numbers are the same, number by number
unfoldable pub same : List ℕ → List ℕ → Bool
same [] [] = true
same [] (y ∷ T) = false
same (x ∷ S) [] = false
same (x ∷ S) (y ∷ T) = eqb x y && same S T
