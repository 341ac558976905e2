-- What those who build on join sets may rely on: valid sets, the class of an element, and what `new`, `find`, `union` and `join_in` do to them.
-- The arrays are named in `Valid` only, and no proof above this crate opens it.
use Rattle.std.specs.Prelude.{ℕ, zero, suc, ◌+◌, ◌≤◌, ◌<◌, ◌≡◌, cond, Result, Ok, Err, eqb, length, get_or}
use Rattle.refusal.specs.declared.StateRefusal.{StateRefusal}
use Rattle.dsu.specs.declared.DSU.{DSU}
use Rattle.dsu.specs.declared.FindAnswer.{FindAnswer}
use Rattle.dsu.specs.declared.SetsAnswer.{SetsAnswer}
use Rattle.dsu.specs.Sets.{find_of}
use Rattle.dsu.specs.Classes.{Classes, Joined}

-- the representative in an answer; 512, which is no element, in a refusal
abbrev pub root_of : Result ℕ StateRefusal → ℕ
root_of (Ok a) = a
root_of (Err r) = 512

-- the class of x, named by the representative that `find` answers
unfoldable pub class_of : DSU → ℕ → ℕ
class_of d x = root_of (find_of d x).found

-- x and y are in one class
abbrev pub Same : DSU → ℕ → ℕ → Type 0
Same d x y = class_of d x ≡ class_of d y

-- how many of the numbers below m the function f takes to a
unfoldable pub count : (ℕ → ℕ) → ℕ → ℕ → ℕ
count f a zero = 0
count f a (suc m) = cond (eqb (f m) a) 1 0 + count f a m

-- each parent is an element, sizes grow towards the representative, and a representative's size is the number of elements of its class
pub record Valid (d : DSU) : Type 0 where
  pub few : d.n ≤ 512
  pub long_repr : d.n ≤ length d.repr
  pub long_size : d.n ≤ length d.size
  pub inside : (x : ℕ) → x < d.n → get_or d.repr x 0 < d.n
  pub grows : (x : ℕ) → x < d.n → (get_or d.repr x 0 ≡ x → ⊥) → get_or d.size x 0 < get_or d.size (get_or d.repr x 0) 0
  pub some : (x : ℕ) → x < d.n → 0 < get_or d.size x 0
  pub fits : (x : ℕ) → x < d.n → get_or d.size x 0 ≤ d.n
  pub counted : (x : ℕ) → x < d.n → get_or d.repr x 0 ≡ x → get_or d.size x 0 ≡ count (class_of d) x d.n

-- r is a `new` of n elements: each is alone
pub record NewLaw (n : ℕ) (r : SetsAnswer) : Type 0 where
  pub done : r.outcome ≡ Ok tt
  pub is_n : r.sets.n ≡ n
  pub valid : Valid r.sets
  pub alone : (x y : ℕ) → x < n → y < n → Same r.sets x y → x ≡ y
  pub classes : Classes (Same r.sets) n n

-- r is a `find` of x in d: a member of x's class, the same for all its members, and no class changed
pub record FindLaw (d : DSU) (x : ℕ) (r : FindAnswer) : Type 0 where
  pub found : r.found ≡ Ok (class_of d x)
  pub inside : class_of d x < d.n
  pub member : Same d x (class_of d x)
  pub is_n : r.sets.n ≡ d.n
  pub valid : Valid r.sets
  pub kept : (y : ℕ) → y < d.n → class_of r.sets y ≡ class_of d y
  pub as_many : (k : ℕ) → Classes (Same d) d.n k → Classes (Same r.sets) d.n k

-- r is a `union` of x and y in d: their classes are one, and no other changed; there is one class fewer where they were apart
pub record UnionLaw (d : DSU) (x y : ℕ) (r : SetsAnswer) : Type 0 where
  pub done : r.outcome ≡ Ok tt
  pub is_n : r.sets.n ≡ d.n
  pub valid : Valid r.sets
  pub joined : Same r.sets x y
  pub kept : (p q : ℕ) → p < d.n → q < d.n → Same d p q → Same r.sets p q
  pub only : (p q : ℕ) → p < d.n → q < d.n → Same r.sets p q → Joined (Same d) x y p q
  pub fewer : (Same d x y → ⊥) → (k : ℕ) → Classes (Same d) d.n k → (j : ℕ) × (k ≡ suc j) × Classes (Same r.sets) d.n j
  pub as_many : Same d x y → (k : ℕ) → Classes (Same d) d.n k → Classes (Same r.sets) d.n k
