-- When 23 and 24 are given, and what a find leaves, told with no walk: the elements on the way from x, and what may be broken at each.
use Rattle.std.specs.Prelude.{ℕ, ◌+◌, ◌≤◌, ◌<◌, ◌≡◌, ◌⊎◌, ◌↔◌, Result, Ok, Err, get_or}
use Rattle.refusal.specs.declared.StateRefusal.{StateRefusal}
use Rattle.refusal.specs.Number.{state_number}
use Rattle.dsu.specs.declared.DSU.{DSU}
use Rattle.dsu.specs.declared.FindAnswer.{FindAnswer}
use Rattle.dsu.specs.declared.SetsAnswer.{SetsAnswer}
use Rattle.dsu.specs.Laws.{class_of}

-- document 01's number of a refusal, 0 where nothing is refused
abbrev pub found_number : Result ℕ StateRefusal → ℕ
found_number (Ok a) = 0
found_number (Err r) = state_number r

abbrev pub outcome_number : Result (Unit {0}) StateRefusal → ℕ
outcome_number (Ok u) = 0
outcome_number (Err r) = state_number r

-- y is on the way from x, which goes from parent to parent and ends at an element that is its own
pub data OnWay (d : DSU) : ℕ → ℕ → Type 0 where
  here : {x : ℕ} → OnWay d x x
  next : {x y : ℕ} → (get_or d.repr x 0 ≡ x → ⊥) → OnWay d (get_or d.repr x 0) y → OnWay d x y

-- e is d after a find of x that answered a: each element on the way from x has a as its parent, every other one the parent that it
-- had; sizes and n are as they were
pub record Compressed (d : DSU) (x a : ℕ) (e : DSU) : Type 0 where
  pub passed : (y : ℕ) → OnWay d x y → get_or e.repr y 0 ≡ a
  pub others : (y : ℕ) → (OnWay d x y → ⊥) → get_or e.repr y 0 ≡ get_or d.repr y 0
  pub sizes : e.size ≡ d.size
  pub is_n : e.n ≡ d.n

-- what is broken at y
pub data Fault (d : DSU) (y : ℕ) : Type 0 where
  many : 512 < d.n → Fault d y
  outside : d.n ≤ get_or d.repr y 0 → Fault d y
  small : (get_or d.repr y 0 ≡ y → ⊥) → get_or d.size (get_or d.repr y 0) 0 ≤ get_or d.size y 0 → Fault d y
  no_size : get_or d.size y 0 ≡ 0 → Fault d y
  large : d.n < get_or d.size y 0 → Fault d y

pub record Broken (d : DSU) (x : ℕ) : Type 0 where
  pub at : ℕ
  pub on : OnWay d x at
  pub fault : Fault d at

-- the classes of x and y are apart, and their sizes are too large together
pub record TooLarge (d : DSU) (x y : ℕ) : Type 0 where
  pub apart : class_of d x ≡ class_of d y → ⊥
  pub over : d.n < get_or d.size (class_of d x) 0 + get_or d.size (class_of d y) 0

-- what gives `union` its 24: a fault on the way of x, on that of y, or in the join
pub data BrokenUnion (d : DSU) (x y : ℕ) : Type 0 where
  first : Broken d x → BrokenUnion d x y
  second : Broken d y → BrokenUnion d x y
  joint : TooLarge d x y → BrokenUnion d x y

-- r is a `new` of n elements
pub record NewRefusals (n : ℕ) (r : SetsAnswer) : Type 0 where
  pub is_23 : (outcome_number r.outcome ≡ 23) ↔ (512 < n)
  pub is_24 : outcome_number r.outcome ≡ 24 → ⊥

-- r is a `find` of x in d
pub record FindRefusals (d : DSU) (x : ℕ) (r : FindAnswer) : Type 0 where
  pub is_23 : (found_number r.found ≡ 23) ↔ (d.n ≤ x)
  pub is_24 : (found_number r.found ≡ 24) ↔ ((x < d.n) × Broken d x)
  pub unchanged : (found_number r.found ≡ 0 → ⊥) → r.sets ≡ d

-- r is a `union` of x and y in d
pub record UnionRefusals (d : DSU) (x y : ℕ) (r : SetsAnswer) : Type 0 where
  pub is_23 : (outcome_number r.outcome ≡ 23) ↔ ((d.n ≤ x) ⊎ (d.n ≤ y))
  pub is_24 : (outcome_number r.outcome ≡ 24) ↔ ((x < d.n) × (y < d.n) × BrokenUnion d x y)
  pub unchanged : (outcome_number r.outcome ≡ 0 → ⊥) → r.sets ≡ d
