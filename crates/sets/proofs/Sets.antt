-- Sets of states: what membership says, and that the members make the set.
use Prim.Native.Nat.{ℕ, zero, suc, ◌+◌, ◌≤◌, ◌<◌}
use mathlib.Core.Bool.{Bool, true, false, cond, false≢true}
use mathlib.Core.List.Memᴰ
use mathlib.Core.List.{[], ◌∷◌}
use mathlib.Core.Logic.{⊎_elim}
use mathlib.Core.Path.{◌≡◌, refl, sym, ◌∙◌, ap}
use native.Mathlib.Nat.{eq-or-lt_of_le}
use native.Mathlib.Omega.{arith}
use borrow.Author.Tests.{eq-eqb, eqb-true}
use lib.Dec.{eqb}
use Rattle.lists.specs.Lists.{◌∈◌}
use Rattle.lists.proofs.Tests.{test, or_cases, or_left, or_right, true_same}
use Rattle.sets.specs.Sets.{Set, has, pick_from, pick, is_empty}
use Rattle.sets.specs.inner.Members.{Canon}

pub mem_has : {q : ℕ} {S : Set} → q ∈ S → has q S ≡ true
unfolding has
mem_has {q = q} {S = []} x'' = elim x'' [ ]
mem_has {q} {S = x ∷ S} (Memᴰ.head e) = or_left _ _ (eq-eqb q x e)
mem_has {q} {S = x ∷ S} (Memᴰ.tail m) = or_right (eqb q x) _ (mem_has m)

pub has_mem : (q : ℕ) (S : Set) → has q S ≡ true → q ∈ S
unfolding has
has_mem q [] h = absurd (false≢true h)
has_mem q (x ∷ S) h = ⊎_elim (λ c. Memᴰ.head (eqb-true q x c)) (λ c. Memᴰ.tail (has_mem q S c)) (or_cases (eqb q x) (has q S) h)

pub has_nil : (q : ℕ) → has q [] ≡ false
unfolding has
has_nil q = refl

-- a set is empty if it has no member
pub no_member : (S : Set) → ((q : ℕ) → has q S ≡ true → ⊥) → S ≡ []
unfolding has
no_member [] h = refl
no_member (x ∷ S) h = absurd (h x (or_left _ _ (eq-eqb x x refl)))

pub empty_yes : (S : Set) → is_empty S ≡ true → S ≡ []
unfolding is_empty
empty_yes [] h = refl
empty_yes (x ∷ S) h = absurd (false≢true h)

pub empty_no : (S : Set) → is_empty S ≡ false → S ≡ [] → ⊥
unfolding is_empty
empty_no S h e = false≢true (sym h ∙ ap is_empty e)

-- the members of what was picked
skip : (q k : ℕ) (R : Set) (b : Bool) → has q R ≡ true → has q (cond b (k ∷ R) R) ≡ true
unfolding has
skip q k R true h = or_right (eqb q k) _ h
skip q k R false h = h

pub pick_in : (k n : ℕ) (P : ℕ → Bool) (q : ℕ) → k ≤ q → q < k + n → P q ≡ true → has q (pick_from k n P) ≡ true
unfolding pick_from has
pick_in k zero P q l u h = absurd (omega arith)
pick_in k (suc n) P q l u h =
    ⊎_elim (λ (e : k ≡ q). rw (ap P e ∙ h) (or_left _ _ (eq-eqb q k (sym e))))
    (λ e. skip q k _ (P k) (pick_in (suc k) n P q e (omega arith) h))
    (eq-or-lt_of_le l)

pub pick_out : (k n : ℕ) (P : ℕ → Bool) (q : ℕ) → has q (pick_from k n P) ≡ true → (k ≤ q) × (q < k + n) × (P q ≡ true)
unfolding pick_from has
pick_out k zero P q h = absurd (false≢true h)
pick_out k (suc n) P q h = go (P k) refl h (pick_out (suc k) n P q)
  where
    Rest : Type 0
    Rest = has q (pick_from (suc k) n P) ≡ true → (suc k ≤ q) × (q < suc k + n) × (P q ≡ true)

    Goal : Type 0
    Goal = (k ≤ q) × (q < k + suc n) × (P q ≡ true)

    far : (suc k ≤ q) × (q < suc k + n) × (P q ≡ true) → Goal
    far r = (omega arith, omega arith, r.2)

    near : P k ≡ true → q ≡ k → Goal
    near e c = (omega arith, omega arith, ap P c ∙ e)

    go : (b : Bool) → P k ≡ b → has q (cond b (k ∷ pick_from (suc k) n P) (pick_from (suc k) n P)) ≡ true → Rest → Goal
    go true e h ih = ⊎_elim (λ c. near e (eqb-true q k c)) (λ c. far (ih c)) (or_cases (eqb q k) _ h)
    go false e h ih = far (ih h)

pub pick_ext : (k n : ℕ) (P Q : ℕ → Bool) → ((q : ℕ) → q < k + n → P q ≡ Q q) → pick_from k n P ≡ pick_from k n Q
unfolding pick_from
pick_ext k zero P Q h = refl
pick_ext k (suc n) P Q h = rw (h k (omega arith), pick_ext (suc k) n P Q (λ q l. h q (omega arith)))

pub picked : (n : ℕ) (P : ℕ → Bool) (q : ℕ) → q < n → P q ≡ true → has q (pick n P) ≡ true
picked n P q l h = pick_in 0 n P q (omega arith) (omega arith) h

pub has_pick : (n : ℕ) (P : ℕ → Bool) (q : ℕ) → q < n → has q (pick n P) ≡ P q
has_pick n P q l = true_same _ _ (λ h. (pick_out 0 n P q h).2) (λ h. picked n P q l h)

pub pick_none : (n : ℕ) (P : ℕ → Bool) → ((q : ℕ) → q < n → P q ≡ false) → pick n P ≡ []
pick_none n P h = no_member _ (λ q t. let r = pick_out 0 n P q t in false≢true (sym (h q (omega (arith, r.1))) ∙ r.2))

-- a test that none past n passes
pub wide : (k n m : ℕ) (P : ℕ → Bool) → n ≤ m → ((q : ℕ) → k + n ≤ q → P q ≡ false) → pick_from k m P ≡ pick_from k n P
unfolding pick_from
wide k zero zero P l h = refl
wide k zero (suc m) P l h = rw (h k (omega arith)) (wide (suc k) zero m P (omega arith) (λ q g. h q (omega arith)))
wide k (suc n) zero P l h = absurd (omega arith)
wide k (suc n) (suc m) P l h = rw (wide (suc k) n m P (omega arith) (λ q g. h q (omega arith)))

-- sets of states below n
pub pick_canon : (n : ℕ) (P : ℕ → Bool) → Canon n (pick n P)
pick_canon n P = pick_ext 0 n _ _ (λ q l. has_pick n P q (omega arith))

pub has_past : (n : ℕ) (S : Set) → Canon n S → (q : ℕ) → n ≤ q → has q S ≡ false
has_past n S c q l =
    ⊎_elim
    (λ (t : has q S ≡ true).
    let m : has q (pick n (λ q. has q S)) ≡ true = rw c t in
    let b = (pick_out 0 n _ q m).1 in
    absurd (omega arith))
    (λ t. t)
    (test (has q S))

pub has_below : (n : ℕ) (S : Set) → Canon n S → (q : ℕ) → has q S ≡ true → q < n
has_below n S c q h = let m : has q (pick n (λ q. has q S)) ≡ true = rw c h in let b = (pick_out 0 n _ q m).1 in omega arith

pub canon_wide : (n m : ℕ) (S : Set) → n ≤ m → Canon n S → Canon m S
canon_wide n m S l c = wide 0 n m _ l (λ q g. has_past n S c q (omega arith)) ∙ c

-- two sets of states with the same members are equal
pub set_ext : (n : ℕ) (S T : Set) → Canon n S → Canon n T → ((q : ℕ) → q < n → has q S ≡ has q T) → S ≡ T
set_ext n S T c d h = sym c ∙ pick_ext 0 n _ _ (λ q l. h q (omega arith)) ∙ d
