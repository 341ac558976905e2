-- The number of classes of a relation on the numbers below n, two classes made one, and the equivalence that pairs of numbers generate.
use Rattle.std.specs.Prelude.{ℕ, suc, ◌<◌}

-- R has k classes among the numbers below n: each number is related to an earlier one, or starts a class
pub data Classes (R : ℕ → ℕ → Type 0) : ℕ → ℕ → Type 0 where
  none : Classes R 0 0
  old : {n k : ℕ} (i : ℕ) → i < n → R i n → Classes R n k → Classes R (suc n) k
  new : {n k : ℕ} → ((i : ℕ) → i < n → R i n → ⊥) → Classes R n k → Classes R (suc n) (suc k)

-- p and q are in one class once the classes of x and y are made one: they were before, or one is with x and the other with y
pub data Joined (R : ℕ → ℕ → Type 0) (x y p q : ℕ) : Type 0 where
  before : R p q → Joined R x y p q
  across : R p x → R q y → Joined R x y p q
  back : R p y → R q x → Joined R x y p q
