-- What decoding makes of the encoding of a scalar value, and of the encodings of a list of them.
use Prim.Native.Nat.{ℕ, ◌+◌, ◌*◌, ◌/◌, ◌%◌, ◌≤◌, ◌<◌}
use mathlib.Core.Bool.{true}
use mathlib.Core.List.Memᴰ
use mathlib.Core.List.{List, [], ◌∷◌, ◌++◌, flat_map}
use mathlib.Core.Logic.{⊎_elim}
use mathlib.Core.Path.{◌≡◌, refl, ◌∙◌, ap}
use native.Mathlib.Omega.{arith}
use borrow.Author.Tests.{lt-ltb, le-ltb, le-leb, ltb-true, ltb-false}
use lib.Dec.{ltb}
use lib.ListN.{length}
use lib.Seq.{drop-append_seam}
use Rattle.lists.specs.Lists.{◌∈◌}
use Rattle.lists.proofs.Tests.{test}
use Rattle.utf8.specs.Utf8.{sequence_length, is_continuation, continued, lead_bits, value_of, least_value, is_improper, point, scalar_of, sequence, front, points, cons, decode}
use Rattle.utf8.specs.Encode.{Scalar, encode}
use Rattle.utf8.proofs.Front.{sequence_one}
use Rattle.utf8.proofs.Decode.{decode_end, decode_point}

continuation : (b : ℕ) → 0x80 ≤ b → b ≤ 0xBF → is_continuation b ≡ true
unfolding is_continuation
continuation b h k = rw (le-leb 0x80 b h, le-leb b 0xBF k)

scalar_is : (n x : ℕ) → least_value n ≤ x → Scalar x → scalar_of n x ≡ point x n
unfolding scalar_of is_improper
scalar_is n x h p = rw (le-ltb x (least_value n) h, le-ltb 0x10_FFFF x p.small, p.proper)

front_2 : (a b x : ℕ) (rest : List ℕ) → 0xC0 ≤ a → a < 0xE0 → 0x80 ≤ b → b ≤ 0xBF → a % 32 * 64 + b % 64 ≡ x → 0x80 ≤ x → Scalar x
    → front (a ∷ b ∷ rest) ≡ point x 2
unfolding front sequence_length sequence continued lead_bits value_of least_value
front_2 a b x rest h k hb kb e l p =
    rw (le-ltb a 0x80 (omega arith), le-ltb a 0xC0 h, lt-ltb a 0xE0 k, continuation b hb kb, e) (scalar_is 2 x l p)

front_3 : (a b c x : ℕ) (rest : List ℕ) → 0xE0 ≤ a → a < 0xF0 → 0x80 ≤ b → b ≤ 0xBF → 0x80 ≤ c → c ≤ 0xBF
    → (a % 16 * 64 + b % 64) * 64 + c % 64 ≡ x → 0x800 ≤ x → Scalar x → front (a ∷ b ∷ c ∷ rest) ≡ point x 3
unfolding front sequence_length sequence continued lead_bits value_of least_value
front_3 a b c x rest h k hb kb hc kc e l p =
    rw (le-ltb a 0x80 (omega arith), le-ltb a 0xC0 (omega arith), le-ltb a 0xE0 h, lt-ltb a 0xF0 k, continuation b hb kb, continuation c hc kc, e)
    (scalar_is 3 x l p)

front_4 : (a b c d x : ℕ) (rest : List ℕ) → 0xF0 ≤ a → a < 0xF8 → 0x80 ≤ b → b ≤ 0xBF → 0x80 ≤ c → c ≤ 0xBF → 0x80 ≤ d → d ≤ 0xBF
    → ((a % 8 * 64 + b % 64) * 64 + c % 64) * 64 + d % 64 ≡ x → 0x1_0000 ≤ x → Scalar x → front (a ∷ b ∷ c ∷ d ∷ rest) ≡ point x 4
unfolding front sequence_length sequence continued lead_bits value_of least_value
front_4 a b c d x rest h k hb kb hc kc hd kd e l p =
    rw (
      le-ltb a 0x80 (omega arith),
      le-ltb a 0xC0 (omega arith),
      le-ltb a 0xE0 (omega arith),
      le-ltb a 0xF0 h,
      lt-ltb a 0xF8 k,
      continuation b hb kb,
      continuation c hc kc,
      continuation d hd kd,
      e,
    )
    (scalar_is 4 x l p)

-- the payload bits of the bytes are the digits that they were made of
six : (r : ℕ) → r < 64 → (0x80 + r) % 64 ≡ r
six r h = omega arith

three_bits : (q : ℕ) → q < 8 → (0xF0 + q) % 8 ≡ q
three_bits q h = omega arith

digits : (x : ℕ) → x / 64 * 64 + x % 64 ≡ x
digits x = omega arith

value_4 : (x : ℕ) → x ≤ 0x10_FFFF
    → (((0xF0 + x / 64 / 64 / 64) % 8 * 64 + (0x80 + x / 64 / 64 % 64) % 64) * 64 + (0x80 + x / 64 % 64) % 64) * 64 + (0x80 + x % 64) % 64 ≡ x
value_4 x h =
    rw (
      three_bits (x / 64 / 64 / 64) (omega arith),
      six (x / 64 / 64 % 64) (omega arith),
      six (x / 64 % 64) (omega arith),
      six (x % 64) (omega arith),
      digits (x / 64 / 64),
      digits (x / 64),
    )
    (digits x)

module _ (x : ℕ) (rest : List ℕ) (p : Scalar x) where
  encode_1 : x < 0x80 → front (encode x ++ rest) ≡ point x (length (encode x))
  unfolding encode front sequence_length
  encode_1 h = rw (lt-ltb x 0x80 h, lt-ltb x 0x80 h) (sequence_one x rest h)

  encode_2 : 0x80 ≤ x → x < 0x800 → front (encode x ++ rest) ≡ point x (length (encode x))
  unfolding encode
  encode_2 h k =
      rw (le-ltb x 0x80 h, lt-ltb x 0x800 k)
      (front_2 (0xC0 + x / 64) (0x80 + x % 64) x rest (omega arith) (omega arith) (omega arith) (omega arith) (omega arith) h p)

  encode_3 : 0x800 ≤ x → x < 0x1_0000 → front (encode x ++ rest) ≡ point x (length (encode x))
  unfolding encode
  encode_3 h k =
      rw (le-ltb x 0x80 (omega arith), le-ltb x 0x800 h, lt-ltb x 0x1_0000 k)
      (front_3 (0xE0 + x / 64 / 64) (0x80 + x / 64 % 64) (0x80 + x % 64) x rest
      (omega arith) (omega arith) (omega arith) (omega arith) (omega arith) (omega arith) (omega arith) h p)

  encode_4 : 0x1_0000 ≤ x → front (encode x ++ rest) ≡ point x (length (encode x))
  unfolding encode
  encode_4 h =
      let k = p.small in
      rw (le-ltb x 0x80 (omega arith), le-ltb x 0x800 (omega arith), le-ltb x 0x1_0000 h)
      (front_4 (0xF0 + x / 64 / 64 / 64) (0x80 + x / 64 / 64 % 64) (0x80 + x / 64 % 64) (0x80 + x % 64) x rest
      (omega arith) (omega arith) (omega arith) (omega arith) (omega arith) (omega arith) (omega arith) (omega arith) (value_4 x k) h p)

  pub front_encode : front (encode x ++ rest) ≡ point x (length (encode x))
  front_encode =
      ⊎_elim (λ e. encode_1 (ltb-true x 0x80 e))
      (λ e.
      ⊎_elim (λ f. encode_2 (ltb-false x 0x80 e) (ltb-true x 0x800 f))
      (λ f. ⊎_elim (λ g. encode_3 (ltb-false x 0x800 f) (ltb-true x 0x1_0000 g)) (λ g. encode_4 (ltb-false x 0x1_0000 g)) (test (ltb x 0x1_0000)))
      (test (ltb x 0x800)))
      (test (ltb x 0x80))

  -- what decoding makes of an encoding
  pub decode_encode : decode (encode x ++ rest) ≡ cons x (decode rest)
  decode_encode = decode_point (encode x ++ rest) x _ front_encode ∙ ap (λ l. cons x (decode l)) (drop-append_seam (encode x) rest)

pub decode_encodings : (ps : List ℕ) → ((x : ℕ) → x ∈ ps → Scalar x) → decode (flat_map encode ps) ≡ points ps
unfolding flat_map front
decode_encodings [] h = decode_end [] refl
decode_encodings (x ∷ ps) h =
    decode_encode x (flat_map encode ps) (h x (Memᴰ.head refl))
    ∙ ap (cons x) (decode_encodings ps (λ y m. h y (Memᴰ.tail m)))
