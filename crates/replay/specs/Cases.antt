-- The parts of a case: a list is its length and then its elements.
use Rattle.std.specs.Prelude.{ℕ, suc, ◌+◌, ◌-◌, Bool, false, cond, List, [], ◌∷◌, eqb, leb, ltb, length, get_or, take, drop}

-- the elements of the list at a place; none where the case is too short
unfoldable pub list_at : List ℕ → ℕ → List ℕ
list_at s at =
    cond (leb (length s) at) []
    (cond (ltb (length s - (at + 1)) (get_or s at 0)) []
    (take (get_or s at 0) (drop (at + 1) s)))

-- x stands at the place, and nothing behind it
unfoldable pub is_last : List ℕ → ℕ → ℕ → Bool
is_last s at x = cond (leb (length s) at) false (cond (ltb (at + 1) (length s)) false (eqb (get_or s at 0) x))

-- how many elements stand before the first that is no byte
unfoldable pub bytes_before : List ℕ → ℕ
bytes_before [] = 0
bytes_before (x ∷ s) = cond (ltb 255 x) 0 (suc (bytes_before s))
