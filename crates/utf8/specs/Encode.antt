-- The table of RFC 3629, section 3: the bytes of each code point, and the texts that code points make.
use Rattle.std.specs.Prelude.{ℕ, ◌+◌, ◌/◌, ◌%◌, ◌≤◌, false, cond, ◌≡◌, ltb}
use mathlib.Core.List.{List, [], ◌∷◌, flat_map}
use Rattle.lists.specs.Lists.{◌∈◌}
use Rattle.utf8.specs.Utf8.{is_surrogate}

-- the code points that UTF-8 has sequences for
pub record Scalar (x : ℕ) : Type 0 where
  pub small : x ≤ 0x10_FFFF
  pub proper : is_surrogate x ≡ false

-- the payload bits of x go six at a time into the continuation bytes, the last six into the last one
unfoldable pub encode : ℕ → List ℕ
encode x =
    cond (ltb x 0x80) (x ∷ [])
    (cond (ltb x 0x800) ((0b1100_0000 + x / 64) ∷ (0b1000_0000 + x % 64) ∷ [])
    (cond (ltb x 0x1_0000) ((0b1110_0000 + x / 64 / 64) ∷ (0b1000_0000 + x / 64 % 64) ∷ (0b1000_0000 + x % 64) ∷ [])
    ((0b1111_0000 + x / 64 / 64 / 64) ∷ (0b1000_0000 + x / 64 / 64 % 64) ∷ (0b1000_0000 + x / 64 % 64) ∷ (0b1000_0000 + x % 64) ∷ [])))

-- the text t is the encodings of the code points ps put together
pub record Encoded (t ps : List ℕ) : Type 0 where
  pub scalars : (x : ℕ) → x ∈ ps → Scalar x
  pub same : flat_map encode ps ≡ t
