-- Warshall's closure of rows of sets: row p has what p leads to, first directly, then through 0, through 0 and 1, and so on.
use Rattle.std.specs.Prelude.{ℕ, zero, suc, cond, ◌||◌, List, [], map, get_or}
use Rattle.sets.specs.Sets.{Set, has, pick}

-- a row takes in row k, which is K, where it has k
unfoldable pub through : ℕ → ℕ → Set → Set → Set
through n k K R = cond (has k R) (pick n (λ q. has q R || has q K)) R

-- the rows of n states after k rounds
unfoldable pub closed : ℕ → ℕ → List Set → List Set
closed n zero R = R
closed n (suc k) R = map (through n k (get_or (closed n k R) k [])) (closed n k R)
