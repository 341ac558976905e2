-- Bits of words: words with the same bits are the same, and the bits of a union, of a power of two, of a shifted word, and under the lowest one.
use Prim.Native.Nat.{ℕ, zero, suc, ◌+◌, ◌*◌, ◌/◌, ◌%◌, ◌^◌, ◌≤◌, ◌<◌, max}
use mathlib.Core.Bool.{true, false, ◌||◌}
use mathlib.Core.Logic.{⊎_elim}
use mathlib.Core.Path.{◌≡◌, refl, sym, ◌∙◌, ap}
use native.Mathlib.Nat.{div-div-eq-div-mul, pow-succ'}
use native.Mathlib.Omega.{arith}
use borrow.Author.Tests.{eq-eqb, ne_eqb, eqb-true, eqb-false}
use lib.Bits.{bit_or, or_shr, or_step}
use lib.Count.{count_trailing_zeros, under}
use lib.Dec.{eqb}
use lib.Pow.{shr-shr}
use Rattle.lists.proofs.Tests.{test, true_same}
use Rattle.sets.specs.inner.BitSet.{bit}

pub bit_zero : (w : ℕ) → bit w 0 ≡ eqb (w % 2) 1
unfolding bit
bit_zero w = ap (λ x. eqb (x % 2) 1) (div_one w)
  where
    div_one : (w : ℕ) → w / 2 ^ 0 ≡ w
    div_one w = omega arith

pub bit_suc : (w k : ℕ) → bit w (suc k) ≡ bit (w / 2) k
unfolding bit
bit_suc w k = ap (λ x. eqb (x % 2) 1) (ap (λ x. w / x) (pow-succ' 2 k) ∙ sym (div-div-eq-div-mul w 2 (2 ^ k)))

odd : (w v : ℕ) → eqb (w % 2) 1 ≡ eqb (v % 2) 1 → w % 2 ≡ v % 2
odd w v h =
    ⊎_elim (λ (t : eqb (w % 2) 1 ≡ true). let a = eqb-true (w % 2) 1 t in let b = eqb-true (v % 2) 1 (sym h ∙ t) in omega arith)
    (λ (t : eqb (w % 2) 1 ≡ false). let a = eqb-false (w % 2) 1 t in let b = eqb-false (v % 2) 1 (sym h ∙ t) in even a b)
    (test (eqb (w % 2) 1))
  where
    even : (w % 2 ≡ 1 → ⊥) → (v % 2 ≡ 1 → ⊥) → w % 2 ≡ v % 2
    even a b = omega arith

-- words with the same bits are the same
pub word_ext : (n w v : ℕ) → w < 2 ^ n → v < 2 ^ n → ((k : ℕ) → k < n → bit w k ≡ bit v k) → w ≡ v
word_ext zero w v a b h = omega arith
word_ext (suc n) w v a b h =
    let p = pow-succ' 2 n in
    let e : w / 2 ≡ v / 2 = word_ext n (w / 2) (v / 2) (omega arith) (omega arith) (λ k l. sym (bit_suc w k) ∙ h (suc k) (omega arith) ∙ bit_suc v k) in
    let o = odd w v (sym (bit_zero w) ∙ h 0 (omega arith) ∙ bit_zero v) in
    omega arith

bool_max : (x y : ℕ) → x < 2 → y < 2 → eqb (max x y) 1 ≡ (eqb x 1 || eqb y 1)
bool_max zero zero a b = refl
bool_max zero (suc zero) a b = refl
bool_max zero (suc (suc y)) a b = absurd (omega arith)
bool_max (suc zero) zero a b = refl
bool_max (suc zero) (suc zero) a b = refl
bool_max (suc zero) (suc (suc y)) a b = absurd (omega arith)
bool_max (suc (suc x)) y a b = absurd (omega arith)

pub bit_or_lem : (w v k : ℕ) → bit (bit_or w v) k ≡ (bit w k || bit v k)
unfolding bit
bit_or_lem w v k =
    let a = w / 2 ^ k in
    let b = v / 2 ^ k in
    let m : bit_or a b % 2 ≡ max (a % 2) (b % 2) = last a b (or_step a b) in
    ap (λ x. eqb (x % 2) 1) (or_shr w v k) ∙ ap (λ x. eqb x 1) m ∙ bool_max (a % 2) (b % 2) (omega arith) (omega arith)
  where
    last : (a b : ℕ) → bit_or a b ≡ bit_or (a / 2) (b / 2) * 2 + max (a % 2) (b % 2) → bit_or a b % 2 ≡ max (a % 2) (b % 2)
    last a b e = omega arith

pub bit_nothing : (k : ℕ) → bit 0 k ≡ false
bit_nothing zero = bit_zero 0
bit_nothing (suc k) = bit_suc 0 k ∙ bit_nothing k

eqb_suc : (j k : ℕ) → eqb j k ≡ eqb (suc j) (suc k)
eqb_suc j k =
    true_same _ _ (λ h. let e = eqb-true j k h in eq-eqb (suc j) (suc k) (omega arith)) (λ h. let e = eqb-true (suc j) (suc k) h in eq-eqb j k (omega arith))

-- the one bit of a power of two
pub bit_pow : (k j : ℕ) → bit (2 ^ k) j ≡ eqb j k
bit_pow zero zero = bit_zero 1
bit_pow zero (suc j) = bit_suc 1 j ∙ bit_nothing j ∙ sym (ne_eqb (suc j) 0 (λ e. omega arith))
bit_pow (suc k) zero = bit_zero (2 ^ suc k) ∙ ne_eqb (2 ^ suc k % 2) 1 (λ e. let p = pow-succ' 2 k in omega arith) ∙ sym (ne_eqb 0 (suc k) (λ e. omega arith))
bit_pow (suc k) (suc j) = bit_suc (2 ^ suc k) j ∙ ap (λ x. bit x j) (let p = pow-succ' 2 k in omega arith) ∙ bit_pow k j ∙ eqb_suc j k

-- the bits of a word shifted down
pub bit_shift : (w r k : ℕ) → bit (w / 2 ^ r) k ≡ bit w (r + k)
unfolding bit
bit_shift w r k = ap (λ x. eqb (x % 2) 1) (shr-shr w r k)

-- a word of n bits has none past them
pub bit_past : (n w k : ℕ) → w < 2 ^ n → n ≤ k → bit w k ≡ false
bit_past zero w k h l = let z : w ≡ 0 = omega arith in rw z (bit_nothing k)
bit_past (suc n) w zero h l = absurd (omega arith)
bit_past (suc n) w (suc k) h l = let p = pow-succ' 2 n in bit_suc w k ∙ bit_past n (w / 2) k (omega arith) (omega arith)

-- the lowest bit of a word that is not 0, and what lies under it
pub trailing_one : (k w : ℕ) → 0 < w → w < 2 ^ k → (count_trailing_zeros k w < k) × (bit w (count_trailing_zeros k w) ≡ true)
unfolding count_trailing_zeros
trailing_one zero w p h = absurd (omega arith)
trailing_one (suc k) w p h = go (w % 2) refl (trailing_one k (w / 2))
  where
    Rest : Type 0
    Rest = 0 < w / 2 → w / 2 < 2 ^ k → (count_trailing_zeros k (w / 2) < k) × (bit (w / 2) (count_trailing_zeros k (w / 2)) ≡ true)

    go : (d : ℕ) → w % 2 ≡ d → Rest → (under d (count_trailing_zeros k (w / 2)) < suc k) × (bit w (under d (count_trailing_zeros k (w / 2))) ≡ true)
    go zero e ih = let s = pow-succ' 2 k in let r = ih (omega arith) (omega arith) in (omega (arith, r.0), bit_suc w _ ∙ r.1)
    go (suc d) e ih = (omega arith, bit_zero w ∙ eq-eqb (w % 2) 1 (omega arith))

pub trailing_none : (k w j : ℕ) → j < count_trailing_zeros k w → bit w j ≡ false
unfolding count_trailing_zeros
trailing_none zero w j h = absurd (omega arith)
trailing_none (suc k) w j h = go (w % 2) j refl h (trailing_none k (w / 2))
  where
    Rest : Type 0
    Rest = (j : ℕ) → j < count_trailing_zeros k (w / 2) → bit (w / 2) j ≡ false

    go : (d j : ℕ) → w % 2 ≡ d → j < under d (count_trailing_zeros k (w / 2)) → Rest → bit w j ≡ false
    go zero zero e h ih = bit_zero w ∙ ne_eqb (w % 2) 1 (λ c. omega arith)
    go zero (suc j) e h ih = bit_suc w j ∙ ih j (omega arith)
    go (suc d) j e h ih = absurd (omega arith)
