-- Examples of digits, which antt computes.
use mathlib.Core.List.{[], ◌∷◌}
use mathlib.Core.Path.{◌≡◌, refl}
use Rattle.decimal.specs.Decimal.{digits, last_digits, value, value_after}

-- "0"
zero_digits : digits 0 ≡ 48 ∷ []
unfolding digits last_digits
zero_digits = refl

-- "4294967295", the largest 32-bit word
word_digits : digits 4294967295 ≡ 52 ∷ 50 ∷ 57 ∷ 52 ∷ 57 ∷ 54 ∷ 55 ∷ 50 ∷ 57 ∷ 53 ∷ []
unfolding digits last_digits
word_digits = refl

-- "0120" says 120
leading_zero : value (48 ∷ 49 ∷ 50 ∷ 48 ∷ []) ≡ 120
unfolding value_after
leading_zero = refl
