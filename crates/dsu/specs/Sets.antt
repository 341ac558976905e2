-- What `new`, `find` and `union` answer, and the sets afterwards, on every value of the struct: `repr` has each element's parent,
-- `size` the size of its class, and n is the number of elements. The refusal `Element` is document 01's 23, `JoinSets` its 24.
-- After a refusal the sets are as they were. `union` is that on lent arrays, `union_in`, on copies of the struct's.
use Rattle.std.specs.Prelude.{ℕ, zero, suc, ◌+◌, Bool, true, false, cond, Result, Ok, Err, List, [], ◌∷◌, ◌++◌, leb, ltb, eqb, get_or, set, replicate}
use Rattle.refusal.specs.declared.StateRefusal.{StateRefusal}
use Rattle.refusal.specs.declared.StateRefusal.TheVariants.{Element, JoinSets}
use Rattle.dsu.specs.declared.DSU.{DSU}
use Rattle.dsu.specs.declared.FindAnswer.{FindAnswer}
use Rattle.dsu.specs.declared.SetsAnswer.{SetsAnswer}

-- what is seen at an element on the way to its representative: it is its own parent, it has another one, or something is broken
pub data Seen : Type 0 where
  top up fault : Seen

-- broken are: n over 512; a size met that is 0 or over n; a parent outside; a parent's size that is not larger
unfoldable pub seen : List ℕ → List ℕ → ℕ → ℕ → Seen
seen repr size n x =
    cond (ltb 512 n) fault
    (cond (eqb (get_or size x 0) 0) fault
    (cond (ltb n (get_or size x 0)) fault
    (cond (eqb (get_or repr x 0) x) top
    (cond (leb n (get_or repr x 0)) fault
    (cond (leb (get_or size (get_or repr x 0) 0) (get_or size x 0)) fault up)))))

-- the end of the way: a fault, or the representative and the parents afterwards
pub data Way : Type 0 where
  broken : Way
  reached : ℕ → List ℕ → Way

-- the parent's way, with x made to point at the representative
abbrev pub point : ℕ → Way → Way
point x broken = broken
point x (reached a repr) = reached a (set repr x a)

abbrev pub onward : ℕ → List ℕ → Seen → Way → Way
onward x repr top above = reached x repr
onward x repr up above = point x above
onward x repr fault above = broken

-- the way from x. The first number bounds the steps; sizes grow on the way, so `suc n` is enough
unfoldable pub walk : ℕ → List ℕ → List ℕ → ℕ → ℕ → Way
walk zero repr size n x = broken
walk (suc k) repr size n x = let above = walk k repr size n (get_or repr x 0) in onward x repr (seen repr size n x) above

unfoldable pub way : List ℕ → List ℕ → ℕ → ℕ → Way
way repr size n x = walk (suc n) repr size n x

-- the sets d with other parents and sizes
abbrev pub changed : DSU → List ℕ → List ℕ → DSU
changed d repr size = record { repr = repr; size = size; n = d.n }

-- `find`: 23 for an element outside, 24 where the way is broken, else the representative
abbrev pub found_by : DSU → Way → FindAnswer
found_by d broken = record { found = Err JoinSets; sets = d }
found_by d (reached a repr) = record { found = Ok a; sets = changed d repr d.size }

unfoldable pub find_of : DSU → ℕ → FindAnswer
find_of d x =
    cond (leb d.n x) (record { found = Err Element; sets = d })
    (found_by d (way d.repr d.size d.n x))

abbrev pub refuse : DSU → StateRefusal → SetsAnswer
refuse d r = record { outcome = Err r; sets = d }

-- whether two elements were apart before a union on lent arrays, or its refusal, and the parents and sizes after it
abbrev pub After : Type 0
After = Result Bool StateRefusal × List ℕ × List ℕ

-- the root b put under the root a, whose size is then that of both
abbrev pub under : List ℕ → List ℕ → ℕ → ℕ → After
under repr size a b = (Ok true, set repr b a, set size a (get_or size a 0 + get_or size b 0))

-- two roots joined by size; on equal sizes the second joins the first. 24 where the joined size would be over n
unfoldable pub join : List ℕ → List ℕ → ℕ → ℕ → ℕ → After
join repr size n a b =
    cond (eqb a b) (Ok false, repr, size)
    (cond (ltb n (get_or size a 0 + get_or size b 0)) (Err JoinSets, repr, size)
    (cond (ltb (get_or size a 0) (get_or size b 0)) (under repr size b a) (under repr size a b)))

abbrev pub join_second : List ℕ → List ℕ → ℕ → ℕ → Way → After
join_second repr size n a broken = (Err JoinSets, repr, size)
join_second repr size n a (reached b after) = join after size n a b

abbrev pub join_first : List ℕ → List ℕ → ℕ → ℕ → Way → After
join_first repr size n y broken = (Err JoinSets, repr, size)
join_first repr size n y (reached a after) = join_second after size n a (way after size n y)

-- a union on lent arrays: 23 for either element before 24; then the way of x, that of y with the parents afterwards, and the join.
-- A fault leaves the parents that the ways before it left
unfoldable pub union_in : List ℕ → List ℕ → ℕ → ℕ → ℕ → After
union_in repr size n x y =
    cond (leb n x) (Err Element, repr, size)
    (cond (leb n y) (Err Element, repr, size)
    (join_first repr size n y (way repr size n x)))

-- the answer to a union in d: the sets with what it left in the arrays, or d itself after a refusal
abbrev pub made_of : DSU → Result Bool StateRefusal → List ℕ → List ℕ → SetsAnswer
made_of d (Ok apart) repr size = record { outcome = Ok tt; sets = changed d repr size }
made_of d (Err r) repr size = refuse d r

-- `union`: on copies of d's arrays
unfoldable pub union_of : DSU → ℕ → ℕ → SetsAnswer
union_of d x y = let u = union_in d.repr d.size d.n x y in made_of d u.0 u.1 u.2

-- 0, 1, .., n - 1
unfoldable pub up_to : ℕ → List ℕ
up_to zero = []
up_to (suc n) = up_to n ++ n ∷ []

-- n elements, each its own parent, in a class of size 1
unfoldable pub fresh : ℕ → DSU
fresh n = record { repr = up_to 512; size = replicate 512 1; n = n }

-- `new`: 23, with sets of no elements, for over 512
unfoldable pub new_of : ℕ → SetsAnswer
new_of n = cond (ltb 512 n) (refuse (fresh 0) Element) (record { outcome = Ok tt; sets = fresh n })
