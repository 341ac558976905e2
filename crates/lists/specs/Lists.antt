-- Membership, tests of all elements, and order in lists.
use Rattle.std.specs.Prelude.{ℕ, zero, suc, Bool, true, false, cond, ◌&&◌, ◌||◌}
use mathlib.Core.List.{List, [], ◌∷◌, Memᴰ}

abbrev pub ◌∈◌ : {A : Type 0} → A → List A → Type 0
◌∈◌ = Memᴰ

infix 40 ◌∈◌
-- some element passes the test
unfoldable pub any : {A : Type 0} → (A → Bool) → List A → Bool
any f [] = false
any f (x ∷ l) = f x || any f l

-- every element passes the test
unfoldable pub all : {A : Type 0} → (A → Bool) → List A → Bool
all f [] = true
all f (x ∷ l) = f x && all f l

-- the elements that pass, in order
unfoldable pub filter : {A : Type 0} → (A → Bool) → List A → List A
filter f [] = []
filter f (x ∷ l) = cond (f x) (x ∷ filter f l) (filter f l)

-- g 0, g 1, .. , g (n - 1)
unfoldable pub tabulate : {A : Type 0} → ℕ → (ℕ → A) → List A
tabulate zero g = []
tabulate (suc n) g = g 0 ∷ tabulate n (λ k. g (suc k))

-- each element is related to all later ones
pub data Ascending {X : Type 0} (R : X → X → Type 0) : List X → Type 0 where
  none : Ascending R []
  more : {x : X} {l : List X} → ((y : X) → y ∈ l → R x y) → Ascending R l → Ascending R (x ∷ l)

-- no element stands twice
pub data Distinct {X : Type 0} : List X → Type 0 where
  none : Distinct []
  more : {x : X} {l : List X} → (x ∈ l → ⊥) → Distinct l → Distinct (x ∷ l)
