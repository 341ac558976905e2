-- The sheets on which look-ups of sets of states are counted.
use Rattle.std.specs.Prelude.{ℕ, zero, suc, ◌+◌, ◌*◌, ◌/◌, ◌%◌, ◌^◌, cond, List, [], ◌∷◌, ◌++◌, eqb, replicate}

-- the words of m records: state i is led to the next by (0, 0), and so on
unfoldable pub links : ℕ → ℕ → List ℕ
links i zero = []
links i (suc m) = i ∷ 1 ∷ 0 ∷ 0 ∷ suc i ∷ links (suc i) m

-- the sheet of a chain of m + 1 states, none of which accepts
unfoldable pub chain : ℕ → List ℕ
chain m = 1 ∷ 0 ∷ suc m ∷ replicate (suc m) 0 ++ m ∷ links 0 m

-- the number of set k, the sum of 2 ^ q over its states q: even, so that state 0 is in no such set, and with the remainder 1 by 509 (1018 is 2 * 509, and 1528 is 3 * 509 + 1), as the number of
-- the start's set {0} has. Look-ups begin at that remainder. Above each power of 2 from 2 ^ 14 on there are eight of the numbers, so that few of their digits are 1 and the sets need few records
unfoldable pub number : ℕ → ℕ
number k = 1018 * (2 ^ (14 + k / 8) / 1018 + k % 8) + 1528

-- the words of the record that leads state 0 to state q by the range (k, k), where q's digit in the set's number is 1
unfoldable pub to_state : ℕ → ℕ → ℕ → List ℕ
to_state k q digit = cond (eqb digit 1) (0 ∷ 1 ∷ k ∷ k ∷ q ∷ []) []

-- those of the states q, q + 1 and so on, whose digits are the m binary digits of v, the lowest first
unfoldable pub to_states : ℕ → ℕ → ℕ → ℕ → List ℕ
to_states k q v zero = []
to_states k q v (suc m) = to_state k q (v % 2) ++ to_states k (suc q) (v / 2) m

-- the words of the records that lead state 0 to the states of set k
unfoldable pub to_set : ℕ → List ℕ
to_set k = to_states k 0 (number k) 64

-- those of m sets, from set k on
unfoldable pub to_sets : ℕ → ℕ → List ℕ
to_sets k zero = []
to_sets k (suc m) = to_set k ++ to_sets (suc k) m

-- the sheet of the sets 1 to 254: 64 states, none of which accepts, and 1,802 records
unfoldable pub colliding : List ℕ
colliding = 1 ∷ 0 ∷ 64 ∷ replicate 64 0 ++ 1802 ∷ to_sets 1 254
