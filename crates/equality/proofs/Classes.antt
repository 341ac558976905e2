-- What one class and two mean. Assumes nothing.
use Rattle.std.proofs.Common.{ℕ, zero, suc, ◌≤◌, ◌<◌, ◌≡◌, refl, sym, ap, ◌∙◌, arith}
use native.Mathlib.Decide.{ℕ_discrete}
use Rattle.dsu.specs.Classes.{Classes, none, old, new}
use Rattle.dsu.specs.inner.Generated.{Ker}
use Rattle.dsu.proofs.Generated.{classes_positive}

-- with no second class, all are in one
pub classes_one : {f : ℕ → ℕ} {n k : ℕ} → Classes (Ker f) n k → k ≤ 1 → (p q : ℕ) → p < n → q < n → f p ≡ f q
classes_one none h p q a b = absurd (omega arith)
classes_one {f} (old {n = n} i l r c) h p q a b = to_i p a (classes_one c h) ∙ sym (to_i q b (classes_one c h))
  where
    to_i : (p : ℕ) → p < suc n → ((p q : ℕ) → p < n → q < n → f p ≡ f q) → f p ≡ f i
    to_i p a ih = by_place (ℕ_discrete p n)
      where
        by_place : Dec (p ≡ n) → f p ≡ f i
        by_place (yes e) = ap f e ∙ sym r
        by_place (no e) = ih p i (omega arith) l
classes_one {f} (new {n = n} {k = k} o c) h p q a b = ap f (only p a ∙ sym (only q b))
  where
    none_before : (m : ℕ) → m ≡ n → m ≡ 0
    none_before zero e = refl
    none_before (suc m) e = absurd (omega (arith, classes_positive c (omega arith)))

    only : (p : ℕ) → p < suc n → p ≡ n
    only p a = omega (arith, none_before n refl)
