-- For inner contracts. What the inner functions ask and give.
use Rattle.std.specs.Prelude.{ℕ, ◌≤◌, ◌<◌, cond, Result, Ok, Err, List, leb, get_or}
use Rattle.refusal.specs.declared.StateRefusal.{StateRefusal}
use Rattle.refusal.specs.declared.StateRefusal.TheVariants.{Element, JoinSets}
use Rattle.dsu.specs.Sets.{Way, broken, reached, way}

-- x is an element of no more than 512, with a size as it should be
pub record SizedElement (size : List ℕ) (n x : ℕ) : Type 0 where
  pub few : n ≤ 512
  pub inside : x < n
  pub some : 0 < get_or size x 0
  pub fits : get_or size x 0 ≤ n

-- the same of two roots
pub record Roots (size : List ℕ) (n a b : ℕ) : Type 0 where
  pub few : n ≤ 512
  pub first_inside : a < n
  pub second_inside : b < n
  pub first_fits : get_or size a 0 ≤ n
  pub second_fits : get_or size b 0 ≤ n

-- the answer at the end of a way, and the parents afterwards
abbrev pub Climbed : Type 0
Climbed = Result ℕ StateRefusal × List ℕ

abbrev pub climbed : List ℕ → Way → Climbed
climbed repr broken = (Err JoinSets, repr)
climbed repr (reached a after) = (Ok a, after)

-- the same with 23 before it
unfoldable pub answered : List ℕ → List ℕ → ℕ → ℕ → Climbed
answered repr size n x = cond (leb n x) (Err Element, repr) (climbed repr (way repr size n x))
