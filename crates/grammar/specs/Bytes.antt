-- The bytes of the grammar: space, letters, and what a name is made of.
use Rattle.std.specs.Prelude.{ℕ, Bool, ◌&&◌, ◌||◌, leb, eqb}
use Rattle.decimal.specs.Decimal.{is_digit}

-- blank, tab, CR, LF
unfoldable pub is_space : ℕ → Bool
is_space b = eqb b 32 || eqb b 9 || eqb b 13 || eqb b 10

-- A to Z, a to z
unfoldable pub is_letter : ℕ → Bool
is_letter b = (leb 65 b && leb b 90) || (leb 97 b && leb b 122)

-- letters, digits, _
unfoldable pub is_name_byte : ℕ → Bool
is_name_byte b = is_letter b || is_digit b || eqb b 95
