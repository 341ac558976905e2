-- Decoding is exactly RFC 3629's: a text has the code points ps just when they are scalar values and the text is their encodings put together.
use Prim.Native.Nat.{ℕ, suc, ◌+◌, ◌*◌, ◌/◌, ◌%◌, ◌≤◌, ◌<◌}
use mathlib.Core.Bool.{true, false≢true}
use mathlib.Core.List.Memᴰ
use mathlib.Core.List.{List, [], ◌∷◌, ◌++◌, flat_map}
use mathlib.Core.Logic.{◌↔◌, ⊎_elim}
use mathlib.Core.Path.{◌≡◌, refl, sym, ◌∙◌, ap, ap₂, subst}
use native.Mathlib.Omega.{arith}
use borrow.Author.Tests.{lt-ltb, le-ltb, leb-true}
use lib.Dec.{leb}
use lib.ListN.{drop}
use Rattle.lists.proofs.Tests.{and_parts}
use Rattle.utf8.specs.Utf8.{sequence_length, is_continuation, continued, lead_bits, value_of, least_value, Front, end, fault, point, front, Decoded, malformed, points, cons, decode}
use Rattle.utf8.specs.Encode.{Scalar, encode, Encoded}
use Rattle.utf8.proofs.Lead.{Lead, none, one, two, three, four, lead}
use Rattle.utf8.proofs.Point.{Stands, stands}
use Rattle.utf8.proofs.Encode.{decode_encodings}
use Rattle.utf8.proofs.Decode.{front_end, front_point, decode_end, decode_fault, decode_point}

continuation_bounds : (b : ℕ) → is_continuation b ≡ true → (0x80 ≤ b) × (b ≤ 0xBF)
unfolding is_continuation
continuation_bounds b e = let r = and_parts (leb 0x80 b) (leb b 0xBF) e in (leb-true 0x80 b r.0, leb-true b 0xBF r.1)

-- the first of k continuation bytes, and the rest of them
continued_parts : (k b : ℕ) (l : List ℕ) → continued (suc k) (b ∷ l) ≡ true → (0x80 ≤ b) × (b ≤ 0xBF) × (continued k l ≡ true)
unfolding continued
continued_parts k b l e = let r = and_parts (is_continuation b) (continued k l) e in let h = continuation_bounds b r.0 in (h.0, h.1, r.1)

-- the last six bits of a value are those of its last byte
peel : (x y c : ℕ) → x ≡ y * 64 + c % 64 → 0x80 ≤ c → c ≤ 0xBF → (y ≡ x / 64) × (c ≡ 0x80 + x % 64)
peel x y c e h k = (omega arith, omega arith)

-- a lead byte is its ones and its payload bits
lead_2 : (a : ℕ) → 0xC0 ≤ a → a < 0xE0 → a ≡ 0xC0 + a % 32
lead_2 a h k = omega arith

lead_3 : (a : ℕ) → 0xE0 ≤ a → a < 0xF0 → a ≡ 0xE0 + a % 16
lead_3 a h k = omega arith

lead_4 : (a : ℕ) → 0xF0 ≤ a → a < 0xF8 → a ≡ 0xF0 + a % 8
lead_4 a h k = omega arith

back_1 : (a x : ℕ) (rest : List ℕ) → a < 0x80 → Stands 1 a rest x → a ∷ rest ≡ encode x ++ rest
unfolding encode lead_bits value_of
back_1 a x rest h s = let e : x ≡ a = s.value in rw (e, lt-ltb a 0x80 h)

back_2 : (a x : ℕ) (rest : List ℕ) → 0xC0 ≤ a → a < 0xE0 → Stands 2 a rest x → a ∷ rest ≡ encode x ++ drop 1 rest
unfolding encode lead_bits value_of least_value continued
back_2 a x [] h k s = absurd (false≢true s.tail)
back_2 a x (b ∷ l) h k s =
    let p = continued_parts 0 b l s.tail in
    let u = peel x (a % 32) b s.value p.0 p.1 in
    let low : 0x80 ≤ x = s.long in
    let top : a ≡ 0xC0 + x / 64 = lead_2 a h k ∙ ap (λ i. 0xC0 + i) u.0 in
    rw (le-ltb x 0x80 low, lt-ltb x 0x800 (omega arith)) (ap₂ (λ i j. i ∷ j ∷ l) top u.1)

back_3 : (a x : ℕ) (rest : List ℕ) → 0xE0 ≤ a → a < 0xF0 → Stands 3 a rest x → a ∷ rest ≡ encode x ++ drop 2 rest
unfolding encode lead_bits value_of least_value continued
back_3 a x [] h k s = absurd (false≢true s.tail)
back_3 a x (b ∷ []) h k s = absurd (false≢true (continued_parts 1 b [] s.tail).2)
back_3 a x (b ∷ c ∷ l) h k s =
    let p = continued_parts 1 b (c ∷ l) s.tail in
    let q = continued_parts 0 c l p.2 in
    let u = peel x (a % 16 * 64 + b % 64) c s.value q.0 q.1 in
    let v = peel (x / 64) (a % 16) b (sym u.0) p.0 p.1 in
    let low : 0x800 ≤ x = s.long in
    let top : a ≡ 0xE0 + x / 64 / 64 = lead_3 a h k ∙ ap (λ i. 0xE0 + i) v.0 in
    rw (le-ltb x 0x80 (omega arith), le-ltb x 0x800 low, lt-ltb x 0x1_0000 (omega arith))
    (ap₂ (λ i j. i ∷ j) top (ap₂ (λ i j. i ∷ j ∷ l) v.1 u.1))

back_4 : (a x : ℕ) (rest : List ℕ) → 0xF0 ≤ a → a < 0xF8 → Stands 4 a rest x → a ∷ rest ≡ encode x ++ drop 3 rest
unfolding encode lead_bits value_of least_value continued
back_4 a x [] h k s = absurd (false≢true s.tail)
back_4 a x (b ∷ []) h k s = absurd (false≢true (continued_parts 2 b [] s.tail).2)
back_4 a x (b ∷ c ∷ []) h k s = absurd (false≢true (continued_parts 1 c [] (continued_parts 2 b (c ∷ []) s.tail).2).2)
back_4 a x (b ∷ c ∷ d ∷ l) h k s =
    let p = continued_parts 2 b (c ∷ d ∷ l) s.tail in
    let q = continued_parts 1 c (d ∷ l) p.2 in
    let r = continued_parts 0 d l q.2 in
    let u = peel x ((a % 8 * 64 + b % 64) * 64 + c % 64) d s.value r.0 r.1 in
    let v = peel (x / 64) (a % 8 * 64 + b % 64) c (sym u.0) q.0 q.1 in
    let w = peel (x / 64 / 64) (a % 8) b (sym v.0) p.0 p.1 in
    let low : 0x1_0000 ≤ x = s.long in
    let top : a ≡ 0xF0 + x / 64 / 64 / 64 = lead_4 a h k ∙ ap (λ i. 0xF0 + i) w.0 in
    rw (le-ltb x 0x80 (omega arith), le-ltb x 0x800 (omega arith), le-ltb x 0x1_0000 low)
    (ap₂ (λ i j. i ∷ j) top (ap₂ (λ i j. i ∷ j) w.1 (ap₂ (λ i j. i ∷ j ∷ l) v.1 u.1)))

pub front_encoded : (t : List ℕ) (x n : ℕ) → front t ≡ point x n → t ≡ encode x ++ drop n t
unfolding front
front_encoded [] x n e = cc
front_encoded (a ∷ rest) x n e = let s = stands (sequence_length a) a rest x n e in rw s.0 (go (lead a) s.1)
  where
    go : {m : ℕ} → Lead a m → Stands m a rest x → a ∷ rest ≡ encode x ++ drop m (a ∷ rest)
    go none s = absurd (omega arith)
    go (one h) s = back_1 a x rest h s
    go (two h k) s = back_2 a x rest h k s
    go (three h k) s = back_3 a x rest h k s
    go (four h k) s = back_4 a x rest h k s

cons_nil : (x : ℕ) (d : Decoded) → cons x d ≡ points [] → ⊥
cons_nil x malformed e = let z : ◌≡◌ {A = ℕ} 0 1 = cc in omega arith
cons_nil x (points ps) e = let z : ◌≡◌ {A = ℕ} 0 1 = cc in omega arith

cons_parts : (x y : ℕ) (d : Decoded) (ps : List ℕ) → cons x d ≡ points (y ∷ ps) → (x ≡ y) × (d ≡ points ps)
cons_parts x y malformed ps e = (cc, cc)
cons_parts x y (points qs) ps e = (cc, cc)

pub encoded : (ps t : List ℕ) → decode t ≡ points ps → Encoded t ps
unfolding flat_map
encoded [] t e = record { scalars = λ x m. absurd (Memᴰ.not-nil m); same = go (front t) refl }
  where
    go : (f : Front) → front t ≡ f → [] ≡ t
    go end h = sym (front_end t h)
    go fault h = cc (decode_fault t h)
    go (point x n) h = absurd (cons_nil x (decode (drop n t)) (sym (decode_point t x n h) ∙ e))
encoded (x ∷ ps) t e = go (front t) refl (encoded ps)
  where
    go : (f : Front) → front t ≡ f → ((s : List ℕ) → decode s ≡ points ps → Encoded s ps) → Encoded t (x ∷ ps)
    go end h ih = let z : ◌≡◌ {A = ℕ} 0 1 = cc (decode_end t h) in absurd (omega arith)
    go fault h ih = let z : ◌≡◌ {A = ℕ} 0 1 = cc (decode_fault t h) in absurd (omega arith)
    go (point y n) h ih =
        let p = cons_parts y x (decode (drop n t)) ps (sym (decode_point t y n h) ∙ e) in
        let r = ih (drop n t) p.1 in
        let s : Scalar x = subst Scalar p.0 (front_point t y n h).proper in
        record {
          scalars = λ z m. ⊎_elim (λ q. subst Scalar (sym q) s) (r.scalars z) (Memᴰ.cases_cons m);
          same = ap₂ (λ a l. encode a ++ l) (sym p.0) r.same ∙ sym (front_encoded t y n h);
        }

-- a text has the code points ps just when they are scalar values and the text is their encodings put together
pub decode_exact : (t ps : List ℕ) → (decode t ≡ points ps) ↔ Encoded t ps
decode_exact t ps = (encoded ps t, λ r. ap decode (sym r.same) ∙ decode_encodings ps r.scalars)
