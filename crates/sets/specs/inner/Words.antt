-- For inner contracts. What the code does to the words of a table.
use Rattle.std.specs.Prelude.{ℕ, zero, suc, ◌+◌, ◌*◌, ◌/◌, ◌%◌, ◌^◌, cond, List, get_or, set}
use Rattle.std.specs.Int.Bits.{bit_or}
use Rattle.sets.specs.Sets.{has}
use Rattle.sets.specs.inner.BitSet.{set_at}

-- the words from o on become a, b, c and d
abbrev pub put_words : List ℕ → ℕ → ℕ → ℕ → ℕ → ℕ → List ℕ
put_words t o a b c d = set (set (set (set t o a) (o + 1) b) (o + 2) c) (o + 3) d

-- the set at o gets the member q
unfoldable pub insert_at : List ℕ → ℕ → ℕ → List ℕ
insert_at t o q = set t (o + q / 64) (bit_or (get_or t (o + q / 64) 0) (2 ^ (q % 64)))

-- the set at o takes in the set of u at k
unfoldable pub union_at : List ℕ → ℕ → List ℕ → ℕ → List ℕ
union_at t o u k =
    put_words t o (bit_or (get_or t o 0) (get_or u k 0)) (bit_or (get_or t (o + 1) 0) (get_or u (k + 1) 0))
    (bit_or (get_or t (o + 2) 0) (get_or u (k + 2) 0))
    (bit_or (get_or t (o + 3) 0) (get_or u (k + 3) 0))

-- the set at o becomes the set of u at k
unfoldable pub put_at : List ℕ → ℕ → List ℕ → ℕ → List ℕ
put_at t o u k = put_words t o (get_or u k 0) (get_or u (k + 1) 0) (get_or u (k + 2) 0) (get_or u (k + 3) 0)

-- the set at o becomes empty
unfoldable pub clear_at : List ℕ → ℕ → List ℕ
clear_at t o = put_words t o 0 0 0 0

-- row p takes in row k where it has k
unfoldable pub visit_row : List ℕ → ℕ → ℕ → List ℕ
visit_row t k p = cond (has k (set_at t (4 * p))) (union_at t (4 * p) t (4 * k)) t

-- the rows below p, one after the other
unfoldable pub visit_rows : List ℕ → ℕ → ℕ → List ℕ
visit_rows t k zero = t
visit_rows t k (suc p) = visit_row (visit_rows t k p) k p
