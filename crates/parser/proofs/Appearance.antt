-- Names that are met one after the other keep the order of their first appearance.
use Prim.Native.Nat.{suc, ◌+◌, ◌≤◌, ◌<◌}
use mathlib.Core.Bool.{Bool, true, false, cond}
use mathlib.Core.List.{List, [], ◌∷◌, ◌++◌, append_assoc, append-nil}
use mathlib.Core.Logic.{◌↔◌, ⊎_elim}
use mathlib.Core.Path.{◌≡◌, sym, ◌∙◌, ap, subst}
use native.Mathlib.Omega.{arith}
use borrow.Author.Tests.{ltb-true, ltb-false}
use lib.Dec.{ltb}
use lib.ListN.{length}
use Rattle.lists.proofs.Index.{Decides, index_before, same_no}
use Rattle.lists.proofs.Tests.{test}
use Rattle.search.specs.Search.{index, add, meet}
use Rattle.search.proofs.Tables.{add_known, add_new}

module _ {X : Type 0} (same : X → X → Bool) where
  -- an element that stands in T, or only behind it
  data Side (T : List X) (x : X) : Type 0 where
    inside : index same x T < length T → Side T x
    behind : length T ≤ index same x T → Side T x

  side : (T : List X) (x : X) → Side T x
  side T x =
      ⊎_elim (λ (h : ltb (index same x T) (length T) ≡ true). inside (ltb-true _ _ h))
      (λ (h : ltb (index same x T) (length T) ≡ false). behind (ltb-false _ _ h)) (test (ltb (index same x T) (length T)))

  index_far : (x : X) (T ys : List X) → length T ≤ index same x T → index same x (T ++ ys) ≡ length T + index same x ys
  unfolding index
  index_far x [] ys h = omega arith
  index_far x (y ∷ T) ys h = go (same x y) h (index_far x T ys)
    where
      go : (b : Bool) → suc (length T) ≤ cond b 0 (suc (index same x T)) → (length T ≤ index same x T → index same x (T ++ ys) ≡ length T + index same x ys)
          → cond b 0 (suc (index same x (T ++ ys))) ≡ suc (length T) + index same x ys
      go true h ih = absurd (omega arith)
      go false h ih = let e = ih (omega arith) in omega arith

  module _ (ok : Decides same) where
    -- an element that was met before changes no order
    module _ (T zs : List X) (z : X) (known : index same z T < length T) where
      other : (x : X) → length T ≤ index same x T → index same x (z ∷ zs) ≡ suc (index same x zs)
      unfolding index
      other x h = rw (same_no same ok x z (λ e. let k : index same x T < length T = subst (λ (y : X). index same y T < length T) (sym e) known in omega arith))

      known_order : (x y : X) → (index same x (T ++ zs) < index same y (T ++ zs)) ↔ (index same x (T ++ z ∷ zs) < index same y (T ++ z ∷ zs))
      known_order x y = go (side T x) (side T y)
        where
          go : Side T x → Side T y → (index same x (T ++ zs) < index same y (T ++ zs)) ↔ (index same x (T ++ z ∷ zs) < index same y (T ++ z ∷ zs))
          go (inside a) (inside b) = rw (index_before same x T zs a, index_before same y T zs b, index_before same x T (z ∷ zs) a, index_before same y T (z ∷ zs) b) (λ h. h, λ h. h)
          go (inside a) (behind b) = (
            λ h. omega (arith, index_before same x T (z ∷ zs) a, index_far y T (z ∷ zs) b),
            λ h. omega (arith, index_before same x T zs a, index_far y T zs b),
          )
          go (behind a) (inside b) = (
            λ h. absurd (omega (arith, index_before same y T zs b, index_far x T zs a)),
            λ h. absurd (omega (arith, index_before same y T (z ∷ zs) b, index_far x T (z ∷ zs) a)),
          )
          go (behind a) (behind b) = (
            λ h. omega (arith, index_far x T zs a, index_far y T zs b, index_far x T (z ∷ zs) a, index_far y T (z ∷ zs) b, other x a, other y b),
            λ h. omega (arith, index_far x T zs a, index_far y T zs b, index_far x T (z ∷ zs) a, index_far y T (z ∷ zs) b, other x a, other y b),
          )

    pub meet_order : (xs T : List X) (x y : X) → (index same x (meet same xs T) < index same y (meet same xs T)) ↔ (index same x (T ++ xs) < index same y (T ++ xs))
    unfolding meet
    meet_order [] T x y = rw (append-nil T) (λ h. h, λ h. h)
    meet_order (z ∷ zs) T x y = go (side T z) (meet_order zs (add same z T) x y)
      where
        go : Side T z → (index same x (meet same zs (add same z T)) < index same y (meet same zs (add same z T))) ↔ (index same x (add same z T ++ zs) < index same y (add same z T ++ zs))
            → (index same x (meet same zs (add same z T)) < index same y (meet same zs (add same z T))) ↔ (index same x (T ++ z ∷ zs) < index same y (T ++ z ∷ zs))
        go (inside a) ih =
            let k = known_order T zs z a x y in
            let e : add same z T ≡ T = add_known same z T a in (
              λ h. k.0 (subst (λ (U : List X). index same x (U ++ zs) < index same y (U ++ zs)) e (ih.0 h)),
              λ h. ih.1 (subst (λ (U : List X). index same x (U ++ zs) < index same y (U ++ zs)) (sym e) (k.1 h)),
            )
        go (behind a) ih =
            let e : add same z T ++ zs ≡ T ++ z ∷ zs = ap (λ (U : List X). U ++ zs) (add_new same z T a) ∙ append_assoc T (z ∷ []) zs in
            (λ h. subst (λ (U : List X). index same x U < index same y U) e (ih.0 h), λ h. ih.1 (subst (λ (U : List X). index same x U < index same y U) (sym e) h))
