-- The lines of the program `verdict` as ASCII bytes, which line an answer may have, and what stands in the lent buffer.
use Rattle.std.specs.Prelude.{ℕ, ◌≤◌, ◌<◌, List, [], ◌∷◌, ◌++◌, ◌≡◌, length}
use Rattle.decimal.specs.Decimal.{digits}
use Rattle.stores.specs.Written.{Written}
use Rattle.refusal.specs.Answer.{Answer, refused, given}
use Rattle.determinizations.specs.Two.{Two}
use Rattle.equality.specs.Verdict.{Equal, Apart}

-- `same` and the joins
abbrev pub same_line : ℕ → List ℕ
same_line joins = 115 ∷ 97 ∷ 109 ∷ 101 ∷ 32 ∷ (digits joins ++ 10 ∷ [])

-- a blank and a symbol, for each symbol of a word
unfoldable pub symbols : List ℕ → List ℕ
symbols [] = []
symbols (x ∷ w) = (32 ∷ digits x) ++ symbols w

-- `differ` and each symbol
abbrev pub differ_line : List ℕ → List ℕ
differ_line w = 100 ∷ 105 ∷ 102 ∷ 102 ∷ 101 ∷ 114 ∷ (symbols w ++ 10 ∷ [])

-- `refused` and the number
abbrev pub refused_line : ℕ → List ℕ
refused_line n = 114 ∷ 101 ∷ 102 ∷ 117 ∷ 115 ∷ 101 ∷ 100 ∷ 32 ∷ (digits n ++ 10 ∷ [])

-- the line of an answer; the word of `differ` is free within the rule of `Apart`
pub data VerdictLine : Answer Two → List ℕ → Type 0 where
  refuses : (n : ℕ) → VerdictLine (refused n) (refused_line n)
  same : (t : Two) (joins : ℕ) → Equal t joins → VerdictLine (given t) (same_line joins)
  differs : (t : Two) (w : List ℕ) → Apart t w → VerdictLine (given t) (differ_line w)

-- the size of the longest line: `differ`, 510 symbols of ten digits, each behind a blank, and the line feed
abbrev pub line_size : ℕ
line_size = 5617

-- a buffer o that has room becomes o', with a line of the answer a at its front, and n is the line's length; else nothing is written and n is 0
pub data Printed (a : Answer Two) (o o' : List ℕ) (n : ℕ) : Type 0 where
  short : length o < line_size → o' ≡ o → n ≡ 0 → Printed a o o' n
  printed : line_size ≤ length o → (bytes : List ℕ) → VerdictLine a bytes → Written o 0 bytes o' n → n ≤ line_size → Printed a o o' n
