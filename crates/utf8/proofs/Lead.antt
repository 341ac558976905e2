-- Lead bytes: the ones at the top, as the leading zeros of the inverted byte, give the length of a sequence.
use Prim.Native.Nat.{ℕ, zero, suc, ◌+◌, ◌-◌, ◌*◌, ◌^◌, ◌≤◌, ◌<◌}
use mathlib.Core.Bool.{Bool, true, false, cond}
use mathlib.Core.Logic.{⊎_elim}
use mathlib.Core.Path.{◌≡◌, refl, subst}
use native.Mathlib.Nat.{lt_of_lt_of_le}
use native.Mathlib.Omega.{arith}
use borrow.Author.Tests.{le-ltb, lt-ltb, leb-true, leb-false, ltb-true, ltb-false}
use lib.Count.{count_leading_zeros, leading_length}
use lib.Dec.{leb, ltb}
use lib.Pow.{pow_mono}
use Rattle.lists.proofs.Tests.{test}
use Rattle.utf8.specs.Utf8.{sequence_length, least_value}

module _ (b : ℕ) (small : b < 256) where
  -- the inverted byte has m digits where it has 8 - m leading zeros
  digits : (k m : ℕ) → count_leading_zeros 8 (255 - b) ≡ k → k + m ≡ 8 → (255 - b < 2 ^ m) × (2 ^ m ≤ 2 * (255 - b) + 1)
  digits k m e h =
      let r = leading_length 8 (255 - b) (omega arith) in
      let same : r.0 ≡ m = omega (arith, r.1) in
      (subst (λ n. 255 - b < 2 ^ n) same r.2, subst (λ n. 2 ^ n ≤ 2 * (255 - b) + 1) same r.3)

  pub ones_0 : count_leading_zeros 8 (255 - b) ≡ 0 → 1 ≡ sequence_length b
  unfolding sequence_length
  ones_0 e = let d = digits 0 8 e refl in rw (lt-ltb b 128 (omega arith))

  pub ones_2 : count_leading_zeros 8 (255 - b) ≡ 2 → 2 ≡ sequence_length b
  unfolding sequence_length
  ones_2 e = let d = digits 2 6 e refl in rw (le-ltb b 128 (omega arith), le-ltb b 192 (omega arith), lt-ltb b 224 (omega arith))

  pub ones_3 : count_leading_zeros 8 (255 - b) ≡ 3 → 3 ≡ sequence_length b
  unfolding sequence_length
  ones_3 e =
      let d = digits 3 5 e refl in
      rw (le-ltb b 128 (omega arith), le-ltb b 192 (omega arith), le-ltb b 224 (omega arith), lt-ltb b 240 (omega arith))

  pub ones_4 : count_leading_zeros 8 (255 - b) ≡ 4 → 4 ≡ sequence_length b
  unfolding sequence_length
  ones_4 e =
      let d = digits 4 4 e refl in
      rw (le-ltb b 128 (omega arith), le-ltb b 192 (omega arith), le-ltb b 224 (omega arith), le-ltb b 240 (omega arith), lt-ltb b 248 (omega arith))

  one_one : 128 ≤ b → b < 192 → 0 ≡ sequence_length b
  unfolding sequence_length
  one_one h k = rw (le-ltb b 128 h, lt-ltb b 192 k)

  many_ones : 248 ≤ b → 0 ≡ sequence_length b
  unfolding sequence_length
  many_ones h =
      rw (le-ltb b 128 (omega arith), le-ltb b 192 (omega arith), le-ltb b 224 (omega arith), le-ltb b 240 (omega arith), le-ltb b 248 h)

  pub ones_other : (count_leading_zeros 8 (255 - b) ≡ 0 → ⊥) → (count_leading_zeros 8 (255 - b) ≡ 2 → ⊥) → (count_leading_zeros 8 (255 - b) ≡ 3 → ⊥)
      → (count_leading_zeros 8 (255 - b) ≡ 4 → ⊥) → 0 ≡ sequence_length b
  ones_other n0 n2 n3 n4 =
      let r = leading_length 8 (255 - b) (omega arith) in
      ⊎_elim
      (λ e.
      let few : 2 ^ r.0 ≤ 2 ^ 3 = pow_mono (leb-true r.0 3 e) in
      let low : 255 - b < 8 = lt_of_lt_of_le r.2 few in
      many_ones (omega arith))
      (λ e.
      let seven : count_leading_zeros 8 (255 - b) ≡ 1 = omega (arith, r.1, leb-false r.0 3 e) in
      let d = digits 1 7 seven refl in
      one_one (omega arith) (omega arith))
      (test (leb r.0 3))

-- lengths whose least value is 0
pub least_other : (n : ℕ) → (n ≡ 2 → ⊥) → (n ≡ 3 → ⊥) → (n ≡ 4 → ⊥) → 0 ≡ least_value n
unfolding least_value
least_other zero h k l = refl
least_other (suc zero) h k l = refl
least_other (suc (suc zero)) h k l = absurd (h refl)
least_other (suc (suc (suc zero))) h k l = absurd (k refl)
least_other (suc (suc (suc (suc zero)))) h k l = absurd (l refl)
least_other (suc (suc (suc (suc (suc n))))) h k l = refl

-- the bytes that begin a sequence of each length
pub data Lead (a : ℕ) : ℕ → Type 0 where
  none : Lead a 0
  one : a < 0x80 → Lead a 1
  two : 0xC0 ≤ a → a < 0xE0 → Lead a 2
  three : 0xE0 ≤ a → a < 0xF0 → Lead a 3
  four : 0xF0 ≤ a → a < 0xF8 → Lead a 4

pub lead : (a : ℕ) → Lead a (sequence_length a)
unfolding sequence_length
lead a = go _ _ _ _ _ refl refl refl refl refl
  where
    go : (p q r s t : Bool) → ltb a 0x80 ≡ p → ltb a 0xC0 ≡ q → ltb a 0xE0 ≡ r → ltb a 0xF0 ≡ s → ltb a 0xF8 ≡ t
        → Lead a (cond p 1 (cond q 0 (cond r 2 (cond s 3 (cond t 4 0)))))
    go true q r s t ep eq er es et = one (ltb-true a 0x80 ep)
    go false true r s t ep eq er es et = none
    go false false true s t ep eq er es et = two (ltb-false a 0xC0 eq) (ltb-true a 0xE0 er)
    go false false false true t ep eq er es et = three (ltb-false a 0xE0 er) (ltb-true a 0xF0 es)
    go false false false false true ep eq er es et = four (ltb-false a 0xF0 es) (ltb-true a 0xF8 et)
    go false false false false false ep eq er es et = none
