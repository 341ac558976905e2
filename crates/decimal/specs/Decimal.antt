-- The decimal digits of a number as ASCII bytes, and the number that such bytes say.
use Rattle.std.specs.Prelude.{ℕ, zero, suc, ◌+◌, ◌-◌, ◌*◌, ◌/◌, ◌%◌, Bool, true, false, ◌&&◌, List, [], ◌∷◌, ◌++◌, leb, ltb}

-- the last digits of n, at most k of them, without leading zeros
unfoldable pub last_digits : ℕ → ℕ → List ℕ
last_digits zero n = []
last_digits (suc k) n = elim (ltb n 10) [ true ↦ (48 + n) ∷ [] | false ↦ last_digits k (n / 10) ++ (48 + n % 10) ∷ [] ]

-- all digits of n, of which there are at most n + 1: a number below 10 is one digit, any other has the digits of n / 10 and
-- then that of n % 10 (the laws `digits_one` and `digits_more`)
unfoldable pub digits : ℕ → List ℕ
digits n = last_digits (suc n) n

-- a byte that is a digit
unfoldable pub is_digit : ℕ → Bool
is_digit b = leb 48 b && leb b 57

-- the number v with the digit b behind it
abbrev pub with_digit : ℕ → ℕ → ℕ
with_digit v b = 10 * v + (b - 48)

-- the number that digits say behind those of a
unfoldable pub value_after : ℕ → List ℕ → ℕ
value_after a [] = a
value_after a (d ∷ ds) = value_after (with_digit a d) ds

-- the number that digits say
abbrev pub value : List ℕ → ℕ
value ds = value_after 0 ds
