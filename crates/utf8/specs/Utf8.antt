-- UTF-8 after RFC 3629: the code points of a list of bytes, or that it is malformed.
use Rattle.std.specs.Prelude.{ℕ, zero, suc, ◌+◌, ◌-◌, ◌*◌, ◌%◌, ◌^◌, Bool, true, false, cond, ◌&&◌, ◌||◌, List, [], ◌∷◌, get_or, take, leb, ltb, eqb}

-- The length of the sequence that a lead byte begins: its ones, counted from the top, where none means 1. A byte with
-- one of them, or with five or more, begins no sequence: 0.
unfoldable pub sequence_length : ℕ → ℕ
sequence_length a =
    cond (ltb a 0b1000_0000) 1
    (cond (ltb a 0b1100_0000) 0
    (cond (ltb a 0b1110_0000) 2 (cond (ltb a 0b1111_0000) 3 (cond (ltb a 0b1111_1000) 4 0))))

-- a byte 10xxxxxx
unfoldable pub is_continuation : ℕ → Bool
is_continuation b = leb 0b1000_0000 b && leb b 0b1011_1111

-- the list begins with k continuation bytes
unfoldable pub continued : ℕ → List ℕ → Bool
continued zero l = true
continued (suc k) [] = false
continued (suc k) (b ∷ l) = is_continuation b && continued k l

-- the payload bits of the lead byte of a sequence of n bytes: those behind its ones and the zero after them
unfoldable pub lead_bits : ℕ → ℕ → ℕ
lead_bits n a = cond (eqb n 1) a (a % 2 ^ (7 - n))

-- the payload bits of a sequence as one number: x, then the last six bits of each continuation byte
unfoldable pub value_of : ℕ → List ℕ → ℕ
value_of x [] = x
value_of x (b ∷ l) = value_of (x * 64 + b % 64) l

-- the least value that a sequence of n bytes may have: all below it have a shorter one
unfoldable pub least_value : ℕ → ℕ
least_value n = get_or (0 ∷ 0 ∷ 0x80 ∷ 0x800 ∷ 0x1_0000 ∷ []) n 0

-- the code points that UTF-16 keeps for pairs, which UTF-8 leaves out
unfoldable pub is_surrogate : ℕ → Bool
is_surrogate x = leb 0xD800 x && leb x 0xDFFF

-- x is overlong where the least value is low, over the last code point, or a surrogate
unfoldable pub is_improper : ℕ → ℕ → Bool
is_improper low x = ltb x low || ltb 0x10_FFFF x || is_surrogate x

-- what stands at the front of a list of bytes: nothing, a fault, or a code point with the number of its bytes
pub data Front : Type 0 where
  end : Front
  fault : Front
  point : ℕ → ℕ → Front

-- what a sequence of n bytes with the value x stands for
unfoldable pub scalar_of : ℕ → ℕ → Front
scalar_of n x = cond (is_improper (least_value n) x) fault (point x n)

-- the sequence of n bytes that the lead byte a begins and rest goes on
unfoldable pub sequence : ℕ → ℕ → List ℕ → Front
sequence n a rest =
    cond (eqb n 0) fault
    (cond (continued (n - 1) rest) (scalar_of n (value_of (lead_bits n a) (take (n - 1) rest))) fault)

unfoldable pub front : List ℕ → Front
front [] = end
front (a ∷ rest) = sequence (sequence_length a) a rest

-- the code points of a text
pub data Decoded : Type 0 where
  malformed : Decoded
  points : List ℕ → Decoded

-- one code point more, in front
abbrev pub cons : ℕ → Decoded → Decoded
cons x malformed = malformed
cons x (points ps) = points (x ∷ ps)

-- the code points of a text by what stands at its front, where more k are those from the byte k behind the first one on
abbrev pub decode_front : Front → (ℕ → Decoded) → Decoded
decode_front end more = points []
decode_front fault more = malformed
decode_front (point x n) more = cons x (more (n - 1))

-- the code points of a list of bytes from the byte k on
unfoldable pub decode_from : List ℕ → ℕ → Decoded
decode_from [] k = points []
decode_from (a ∷ rest) zero = decode_front (front (a ∷ rest)) (decode_from rest)
decode_from (a ∷ rest) (suc k) = decode_from rest k

unfoldable pub decode : List ℕ → Decoded
decode t = decode_from t 0
