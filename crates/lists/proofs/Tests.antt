-- Tests: what a Bool says, and the rules that turn a test on the way into the test of a definition.
use Prim.Native.Nat.{ℕ, suc}
use mathlib.Core.Bool.{Bool, true, false, cond, ◌&&◌, ◌||◌, false≢true, true≢false}
use mathlib.Core.Logic.{◌⊎◌, inl, inr}
use mathlib.Core.Path.{◌≡◌, refl, sym}
use borrow.Author.Tests.{lt-leb, le-leb, lt-ltb, le-ltb, eq-eqb, ne_eqb}
use borrow.Author.Rules.{rules}
use native.Mathlib.Omega.{arith}

-- for a return whose definition goes by `leb`, `ltb` and `eqb` in the order of the code's tests
pub ruleset tests = (lt-leb, le-leb, lt-ltb, le-ltb, eq-eqb, ne_eqb, rules)

pub test : (b : Bool) → (b ≡ true) ⊎ (b ≡ false)
test true = inl refl
test false = inr refl

pub or_cases : (a b : Bool) → (a || b) ≡ true → (a ≡ true) ⊎ (b ≡ true)
or_cases true b e = inl refl
or_cases false b e = inr e

pub or_left : (a b : Bool) → a ≡ true → (a || b) ≡ true
or_left a b h = rw h

pub or_right : (a b : Bool) → b ≡ true → (a || b) ≡ true
or_right true b h = refl
or_right false b h = h

pub or_false : (a b : Bool) → (a || b) ≡ false → (a ≡ false) × (b ≡ false)
or_false true b e = absurd (true≢false e)
or_false false b e = (refl, e)

pub and_both : (a b : Bool) → a ≡ true → b ≡ true → (a && b) ≡ true
and_both a b h k = rw (h, k)

pub and_parts : (a b : Bool) → (a && b) ≡ true → (a ≡ true) × (b ≡ true)
and_parts true b e = (refl, e)
and_parts false b e = absurd (false≢true e)

-- two tests are equal if each passes where the other does
pub true_same : (a b : Bool) → (a ≡ true → b ≡ true) → (b ≡ true → a ≡ true) → a ≡ b
true_same true b f g = sym (f refl)
true_same false true f g = g refl
true_same false false f g = refl

-- a choice that is 0 where one side is not
pub cond_no : (b : Bool) (k y : ℕ) → cond b (suc k) y ≡ 0 → (b ≡ false) × (y ≡ 0)
cond_no true k y e = absurd (omega arith)
cond_no false k y e = (refl, e)

pub cond_yes : (b : Bool) (k y : ℕ) → cond b y (suc k) ≡ 0 → (b ≡ true) × (y ≡ 0)
cond_yes true k y e = (refl, e)
cond_yes false k y e = absurd (omega arith)
