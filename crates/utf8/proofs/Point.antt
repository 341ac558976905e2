-- What follows from a code point at the front of a list of bytes.
use Prim.Native.Nat.{ℕ, ◌-◌, ◌≤◌, ◌<◌}
use mathlib.Core.Bool.{Bool, true, false, cond, ◌||◌}
use mathlib.Core.List.{List}
use mathlib.Core.Path.{◌≡◌, refl, sym, ◌∙◌, ap}
use native.Mathlib.Omega.{arith}
use borrow.Author.Tests.{ltb-false, eqb-false}
use lib.Dec.{eqb, ltb}
use lib.ListN.{take}
use Rattle.lists.proofs.Tests.{or_false}
use Rattle.utf8.specs.Utf8.{continued, lead_bits, value_of, least_value, is_surrogate, is_improper, fault, point, scalar_of, sequence}
use Rattle.utf8.specs.Encode.{Scalar}

-- a sequence of n bytes that stands for x
pub record Stands (n a : ℕ) (rest : List ℕ) (x : ℕ) : Type 0 where
  pub some : 0 < n
  pub tail : continued (n - 1) rest ≡ true
  pub value : x ≡ value_of (lead_bits n a) (take (n - 1) rest)
  pub long : least_value n ≤ x
  pub proper : Scalar x

-- a value that is not improper
proper_of : (low x : ℕ) → is_improper low x ≡ false → (low ≤ x) × Scalar x
unfolding is_improper
proper_of low x e =
    let p = or_false (ltb x low || ltb 0x10_FFFF x) (is_surrogate x) e in
    let q = or_false (ltb x low) (ltb 0x10_FFFF x) p.0 in
    (ltb-false x low q.0, record { small = ltb-false 0x10_FFFF x q.1; proper = p.1 })

pub stands : (n a : ℕ) (rest : List ℕ) (x m : ℕ) → sequence n a rest ≡ point x m → (m ≡ n) × Stands n a rest x
unfolding sequence scalar_of
stands n a rest x m = go (eqb n 0) (continued (n - 1) rest) (is_improper (least_value n) v) refl refl refl
  where
    v : ℕ
    v = value_of (lead_bits n a) (take (n - 1) rest)

    never : fault ≡ point x m → ⊥
    never e = let z : ◌≡◌ {A = ℕ} 0 1 = cc in omega arith

    go : (p q r : Bool) → eqb n 0 ≡ p → continued (n - 1) rest ≡ q → is_improper (least_value n) v ≡ r
        → cond p fault (cond q (cond r fault (point v n)) fault) ≡ point x m → (m ≡ n) × Stands n a rest x
    go true q r ep eq er e = absurd (never e)
    go false false r ep eq er e = absurd (never e)
    go false true true ep eq er e = absurd (never e)
    go false true false ep eq er e =
        let same : v ≡ x = cc in
        let c = proper_of (least_value n) x (ap (is_improper (least_value n)) (sym same) ∙ er) in
        (cc, record { some = positive n (eqb-false n 0 ep); tail = eq; value = sym same; long = c.0; proper = c.1 })
      where
        positive : (k : ℕ) → (k ≡ 0 → ⊥) → 0 < k
        positive k h = omega arith
