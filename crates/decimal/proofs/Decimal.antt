-- Laws of decimal digits: the two equations that make them, their value, and how many there are.
use Prim.Native.Nat.{ℕ, zero, suc, ◌+◌, ◌/◌, ◌%◌, ◌^◌, ◌≤◌, ◌<◌}
use mathlib.Core.Bool.{Bool, true, false}
use mathlib.Core.List.{List, [], ◌∷◌, ◌++◌}
use mathlib.Core.Path.{◌≡◌, refl, sym, ◌∙◌, ap}
use native.Mathlib.Nat.{pow-succ'}
use native.Mathlib.Omega.{arith}
use lib.ListN.{length, length-append}
use lib.Dec.{leb, ltb}
use borrow.Author.Tests.{lt-ltb, le-ltb, ltb-true, ltb-false, leb-true}
use Rattle.lists.proofs.Tests.{and_parts}
use Rattle.decimal.specs.Decimal.{last_digits, digits, is_digit, with_digit, value_after, value}

-- a number below 10 and any other, where the tenth of the other is smaller
small_or_more : (P : ℕ → Type 0) → ((n : ℕ) → n < 10 → P n) → ((n : ℕ) → 10 ≤ n → P (n / 10) → P n) → (k n : ℕ) → n < k → P n
small_or_more P one more zero n h = absurd (omega arith)
small_or_more P one more (suc k) n h = case (ltb n 10) refl (small_or_more P one more k (n / 10))
  where
    case : (b : Bool) → ltb n 10 ≡ b → (n / 10 < k → P (n / 10)) → P n
    case true e ih = one n (ltb-true n 10 e)
    case false e ih = let l : 10 ≤ n = ltb-false n 10 e in more n l (ih (omega arith))

-- what holds of each number below 10, and of any other if it holds of its tenth, holds of all numbers
pub by_digits : (P : ℕ → Type 0) → ((n : ℕ) → n < 10 → P n) → ((n : ℕ) → 10 ≤ n → P (n / 10) → P n) → (n : ℕ) → P n
by_digits P one more n = small_or_more P one more (suc n) n (omega arith)

last_one : (k n : ℕ) → n < 10 → last_digits (suc k) n ≡ (48 + n) ∷ []
unfolding last_digits
last_one k n h = rw (last_digits, lt-ltb n 10 h)

last_more : (k n : ℕ) → 10 ≤ n → last_digits (suc k) n ≡ last_digits k (n / 10) ++ (48 + n % 10) ∷ []
unfolding last_digits
last_more k n h = rw (last_digits, le-ltb n 10 h)

-- all k that are enough give the same digits
last_same : (k l n : ℕ) → n < k → n < l → last_digits k n ≡ last_digits l n
last_same zero l n h g = absurd (omega arith)
last_same (suc k) zero n h g = absurd (omega arith)
last_same (suc k) (suc l) n h g = case (ltb n 10) refl (last_same k l (n / 10))
  where
    case : (b : Bool) → ltb n 10 ≡ b → (n / 10 < k → n / 10 < l → last_digits k (n / 10) ≡ last_digits l (n / 10)) → last_digits (suc k) n ≡ last_digits (suc l) n
    case true e ih = let s : n < 10 = ltb-true n 10 e in last_one k n s ∙ sym (last_one l n s)
    case false e ih =
        let m : 10 ≤ n = ltb-false n 10 e in
        last_more k n m ∙ ap (λ ds. ds ++ (48 + n % 10) ∷ []) (ih (omega arith) (omega arith)) ∙ sym (last_more l n m)

pub digits_one : (n : ℕ) → n < 10 → digits n ≡ (48 + n) ∷ []
unfolding digits
digits_one n h = last_one n n h

pub digits_more : (n : ℕ) → 10 ≤ n → digits n ≡ digits (n / 10) ++ (48 + n % 10) ∷ []
unfolding digits
digits_more n h = last_more n n h ∙ ap (λ ds. ds ++ (48 + n % 10) ∷ []) (last_same n (suc (n / 10)) (n / 10) (omega arith) (omega arith))

value_append : (a : ℕ) (ds : List ℕ) (d : ℕ) → value_after a (ds ++ d ∷ []) ≡ with_digit (value_after a ds) d
unfolding value_after
value_append a [] d = refl
value_append a (c ∷ ds) d = value_append (with_digit a c) ds d

-- the digits of n say n
pub value_digits : (n : ℕ) → value (digits n) ≡ n
unfolding value_after
value_digits = by_digits (λ n. value (digits n) ≡ n) (λ n h. rw digits_one (omega arith)) (λ n h ih. rw (digits_more n h, value_append) (omega arith))

-- how many digits
pub length_one : (n : ℕ) → n < 10 → length (digits n) ≡ 1
length_one n h = ap length (digits_one n h)

pub length_more : (n : ℕ) → 10 ≤ n → length (digits n) ≡ length (digits (n / 10)) + 1
length_more n h = ap length (digits_more n h) ∙ simp length-append

-- there is at least one digit, and a number below a power of 10 has at most as many as the power says
pub length_some : (n : ℕ) → 1 ≤ length (digits n)
length_some = by_digits (λ n. 1 ≤ length (digits n)) (λ n h. omega (arith, length_one n h)) (λ n h ih. omega (arith, length_more n h))

pub length_most : (k n : ℕ) → n < 10 ^ suc k → length (digits n) ≤ suc k
length_most zero n h = omega (arith, length_one n h)
length_most (suc k) n h = case (ltb n 10) refl (length_most k (n / 10))
  where
    case : (b : Bool) → ltb n 10 ≡ b → (n / 10 < 10 ^ suc k → length (digits (n / 10)) ≤ suc k) → length (digits n) ≤ suc (suc k)
    case true e ih = omega (arith, length_one n (ltb-true n 10 e))
    case false e ih = let m : 10 ≤ n = ltb-false n 10 e in let r = ih (omega (arith, pow-succ' 10 (suc k))) in omega (arith, length_more n m)

-- a 32-bit word has at most ten digits
pub length_word : (n : ℕ) → n < 2 ^ 32 → length (digits n) ≤ 10
length_word n h = length_most 9 n (omega arith)

-- the bytes of digits
pub digit_least : (b : ℕ) → is_digit b ≡ true → 48 ≤ b
unfolding is_digit
digit_least b h = leb-true 48 b (and_parts (leb 48 b) (leb b 57) h).0

pub digit_most : (b : ℕ) → is_digit b ≡ true → b ≤ 57
unfolding is_digit
digit_most b h = leb-true b 57 (and_parts (leb 48 b) (leb b 57) h).1
