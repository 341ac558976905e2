-- Laws of the place of an element in a list, and of the test whether two lists of numbers are the same.
use Prim.Native.Nat.{ℕ, zero, suc, ◌≤◌, ◌<◌}
use mathlib.Core.Bool.{Bool, true, false, cond, ◌&&◌, ◌||◌, false≢true}
use mathlib.Core.List.Memᴰ
use mathlib.Core.List.{List, [], ◌∷◌, ◌++◌}
use mathlib.Core.Logic.{⊎_elim}
use mathlib.Core.Path.{◌≡◌, refl, sym, ◌∙◌, ap, ap₂}
use native.Mathlib.Omega.{arith}
use borrow.Author.Tests.{eq-eqb, eqb-true, lt-ltb, ltb-true}
use lib.Dec.{eqb, ltb}
use lib.ListN.{get_or, length}
use Rattle.std.specs.Cmp.Lexicographic.{pointwise}
use Rattle.lists.specs.Lists.{◌∈◌, any, Distinct}
use Rattle.lists.specs.Index.{index, same}
use Rattle.lists.proofs.Members.{at_in}
use Rattle.lists.proofs.Tests.{test, and_both, and_parts, true_same}

-- the test is equality
pub record Decides {X : Type 0} (same : X → X → Bool) : Type 0 where
  pub same_eq : (x y : X) → same x y ≡ true → x ≡ y
  pub same_self : (x : X) → same x x ≡ true

module _ {X : Type 0} (same : X → X → Bool) where
  pub index_le : (x : X) (T : List X) → index same x T ≤ length T
  unfolding index
  index_le x [] = omega arith
  index_le x (y ∷ T) = go (same x y) (index_le x T)
    where
      go : (b : Bool) → index same x T ≤ length T → cond b 0 (suc (index same x T)) ≤ suc (length T)
      go true h = omega arith
      go false h = omega arith

  -- in a list with more elements behind it
  pub index_before : (x : X) (T ys : List X) → index same x T < length T → index same x (T ++ ys) ≡ index same x T
  unfolding index
  index_before x [] ys h = absurd (omega arith)
  index_before x (y ∷ T) ys h = go (same x y) h (index_before x T ys)
    where
      go : (b : Bool) → cond b 0 (suc (index same x T)) < suc (length T) → (index same x T < length T → index same x (T ++ ys) ≡ index same x T)
          → cond b 0 (suc (index same x (T ++ ys))) ≡ cond b 0 (suc (index same x T))
      go true h ih = refl
      go false h ih = ap suc (ih (omega arith))

  pub index_behind : (x y : X) (T : List X) → length T ≤ index same x T → index same x (T ++ y ∷ []) ≡ cond (same x y) (length T) (suc (length T))
  unfolding index
  index_behind x y [] h = refl
  index_behind x y (z ∷ T) h = go (same x z) h (index_behind x y T)
    where
      lift : (b : Bool) → suc (cond b (length T) (suc (length T))) ≡ cond b (suc (length T)) (suc (suc (length T)))
      lift true = refl
      lift false = refl

      go : (b : Bool) → suc (length T) ≤ cond b 0 (suc (index same x T))
          → (length T ≤ index same x T → index same x (T ++ y ∷ []) ≡ cond (same x y) (length T) (suc (length T)))
          → cond b 0 (suc (index same x (T ++ y ∷ []))) ≡ cond (same x y) (suc (length T)) (suc (suc (length T)))
      go true h ih = absurd (omega arith)
      go false h ih = ap suc (ih (omega arith)) ∙ lift (same x y)

  -- an element is in a list exactly where its place is
  pub index_any : (x : X) (T : List X) → any (same x) T ≡ ltb (index same x T) (length T)
  unfolding index any
  index_any x [] = refl
  index_any x (y ∷ T) = go (same x y) (index_any x T)
    where
      go : (b : Bool) → any (same x) T ≡ ltb (index same x T) (length T) → (b || any (same x) T) ≡ ltb (cond b 0 (suc (index same x T))) (suc (length T))
      go true e = sym (lt-ltb 0 (suc (length T)) (omega arith))
      go false e =
          let i = index same x T in
          let n = length T in
          e ∙ true_same (ltb i n) (ltb (suc i) (suc n)) (λ t. lt-ltb (suc i) (suc n) (omega (arith, ltb-true i n t))) (λ t. lt-ltb i n (omega (arith, ltb-true (suc i) (suc n) t)))

-- where the test is equality
module _ {X : Type 0} (same : X → X → Bool) (ok : Decides same) where
  pub same_yes : (x y : X) → x ≡ y → same x y ≡ true
  same_yes x y e = ap (same x) (sym e) ∙ ok.same_self x

  pub same_no : (x y : X) → (x ≡ y → ⊥) → same x y ≡ false
  same_no x y h = ⊎_elim (λ (t : same x y ≡ true). absurd (h (ok.same_eq x y t))) (λ t. t) (test (same x y))

  pub index_in : (x : X) (T : List X) → index same x T < length T → x ∈ T
  unfolding index
  index_in x [] h = absurd (omega arith)
  index_in x (y ∷ T) h =
      ⊎_elim (λ t. Memᴰ.head (ok.same_eq x y t)) (λ (t : same x y ≡ false). Memᴰ.tail (index_in x T (let k = rw t at h in omega (arith, k))))
      (test (same x y))

  pub index_lt : (x : X) {T : List X} → x ∈ T → index same x T < length T
  unfolding index
  index_lt x {T = []} x3 = elim x3 [ ]
  index_lt x {T = y ∷ T} (Memᴰ.head e) = rw (same_yes x y e) (omega arith)
  index_lt x {T = y ∷ T} (Memᴰ.tail m) = go (same x y) (index_lt x m)
    where
      go : (b : Bool) → index same x T < length T → cond b 0 (suc (index same x T)) < suc (length T)
      go true h = omega arith
      go false h = omega arith

  -- at the place of a member stands that member
  pub index_at : (d x : X) (T : List X) → x ∈ T → get_or T (index same x T) d ≡ x
  unfolding index
  index_at d x [] m = elim m [ ]
  index_at d x (y ∷ T) m =
      ⊎_elim (λ (t : same x y ≡ true). rw t (sym (ok.same_eq x y t)))
      (λ (t : same x y ≡ false).
      rw t (⊎_elim (λ (e : x ≡ y). absurd (false≢true (sym t ∙ same_yes x y e))) (λ m. index_at d x T m) (Memᴰ.cases_cons m)))
      (test (same x y))

  -- and at the place of what stands for those that the list lacks
  pub index_default : (d : X) (T : List X) → get_or T (index same d T) d ≡ d
  unfolding index
  index_default d [] = refl
  index_default d (y ∷ T) =
      ⊎_elim (λ (t : same d y ≡ true). rw t (sym (ok.same_eq d y t))) (λ (t : same d y ≡ false). rw t (index_default d T)) (test (same d y))

  -- the place of an entry, where none stands twice
  pub index_place : (d : X) {T : List X} → Distinct T → (i : ℕ) → i < length T → index same (get_or T i d) T ≡ i
  unfolding index
  index_place d Distinct.none i h = absurd (omega arith)
  index_place d {T = y ∷ T} (Distinct.more f g) zero h = rw (ok.same_self y)
  index_place d {T = y ∷ T} (Distinct.more f g) (suc i) h =
      let l : i < length T = omega arith in
      rw (same_no (get_or T i d) y (λ q. f (Memᴰ.cast (sym q) (at_in T i d l)))) (ap suc (index_place d g i l))

  -- of different entries just one is x, that at its place
  pub index_same : (d : X) {T : List X} (x : X) (j : ℕ) → Distinct T → j < length T → same (get_or T j d) x ≡ eqb (index same x T) j
  index_same d {T} x j f h =
      true_same _ _
      (λ t. eq-eqb _ j (ap (λ (y : X). index same y T) (sym (ok.same_eq _ x t)) ∙ index_place d f j h))
      (λ t. let e : index same x T ≡ j = eqb-true _ j t in
      same_yes _ x (ap (λ (i : ℕ). get_or T i d) (sym e) ∙ index_at d x T (index_in x T (omega arith))))

-- lists of numbers that pass the test are equal
pub same_equal : (S T : List ℕ) → same S T ≡ true → S ≡ T
unfolding same
same_equal [] [] h = refl
same_equal [] (y ∷ T) h = absurd (false≢true h)
same_equal (x ∷ S) [] h = absurd (false≢true h)
same_equal (x ∷ S) (y ∷ T) h = let p = and_parts (eqb x y) (same S T) h in ap₂ ◌∷◌ (eqb-true x y p.0) (same_equal S T p.1)

same_itself : (S : List ℕ) → same S S ≡ true
unfolding same
same_itself [] = refl
same_itself (x ∷ S) = and_both _ _ (eq-eqb x x refl) (same_itself S)

pub same_decides : Decides same
same_decides = record { same_eq = same_equal; same_self = same_itself }

-- and equal ones pass it
pub equal_same : (S T : List ℕ) → S ≡ T → same S T ≡ true
equal_same S T e = same_yes same same_decides S T e

pub unequal_same : (S T : List ℕ) → (S ≡ T → ⊥) → same S T ≡ false
unequal_same S T h = same_no same same_decides S T h

-- the test is std's `==` of two slices
pub same_slices : (S T : List ℕ) (r : Bool) → r ≡ pointwise eqb S T → r ≡ same S T
unfolding same
same_slices [] [] r e = e
same_slices [] (y ∷ T) r e = e
same_slices (x ∷ S) [] r e = e
same_slices (x ∷ S) (y ∷ T) r e = e ∙ ap (λ (b : Bool). eqb x y && b) (same_slices S T (pointwise eqb S T) refl)
