-- For inner contracts. Memory that is lent blank.
use Rattle.std.specs.Prelude.{ℕ, List, ◌≡◌, length, get_or}

-- n words 0
pub record Zeros (n : ℕ) (ws : List ℕ) : Type 0 where
  pub long : length ws ≡ n
  pub zero : (j : ℕ) → get_or ws j 0 ≡ 0
