-- The sheets whose faults the program prints.
use Rattle.std.specs.Prelude.{ℕ, zero, suc, List, [], ◌∷◌, ◌++◌, replicate}

-- the words of m records from state 0 to state 0, with the ranges (i, i), (i + 1, i + 1) and so on
unfoldable pub loops : ℕ → ℕ → List ℕ
loops i zero = []
loops i (suc m) = 0 ∷ 1 ∷ i ∷ i ∷ 0 ∷ loops (suc i) m

-- the sheet with start 0, n states of which none accepts, and m transitions
unfoldable pub loop_sheet : ℕ → ℕ → List ℕ
loop_sheet n m = 1 ∷ 0 ∷ n ∷ replicate n 0 ++ m ∷ loops 0 m
