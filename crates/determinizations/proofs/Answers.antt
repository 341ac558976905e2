-- An answer is refused with one number or given. Assumes nothing.
use Prim.Native.Nat.{ℕ}
use mathlib.Core.Path.{◌≡◌}
use native.Mathlib.Omega.{arith}
use Rattle.refusal.specs.Answer.{Answer, refused, given}

module _ {X : Type 0} where
  pub not_given : {a : Answer X} {n : ℕ} {x : X} → a ≡ refused n → a ≡ given x → ⊥
  not_given e f = let z : ◌≡◌ {A = ℕ} 0 1 = cc in omega arith

  pub one_number : {a : Answer X} {m n : ℕ} → a ≡ refused m → a ≡ refused n → m ≡ n
  one_number e f = cc
