-- The way from an element, by what is seen there. Assumes nothing.
use Prim.Native.Nat.{ℕ, zero, suc, ◌+◌, ◌≤◌, ◌<◌}
use mathlib.Core.Path.{◌≡◌, refl, sym, ap, ◌∙◌}
use mathlib.Core.Bool.{Bool, true, false, cond}
use mathlib.Core.List.{List}
use native.Mathlib.Omega.{arith}
use lib.Dec.{leb, ltb, eqb}
use lib.ListN.{get_or}
use borrow.Author.Tests.{lt-ltb, le-ltb, le-leb, lt-leb, eq-eqb, ne_eqb, ltb-false, leb-false, eqb-true, eqb-false}
use Rattle.dsu.specs.Sets.{Seen, top, up, fault, seen, broken, reached, point, onward, walk, way}
use Rattle.dsu.specs.inner.Steps.{SizedElement}

cond_same : {A : Type 0} (b : Bool) (a : A) → cond b a a ≡ a
cond_same true a = refl
cond_same false a = refl

-- a test whose first answer is not the one given was false
cond_else : {A : Type 0} (b : Bool) (a c d : A) → (a ≡ d → ⊥) → cond b a c ≡ d → (b ≡ false) × (c ≡ d)
cond_else true a c d h e = absurd (h e)
cond_else false a c d h e = (refl, e)

-- what is seen, from the facts
module _ (l z : List ℕ) (n x : ℕ) where
  -- of a parent that is another element
  parent_seen : Seen
  parent_seen = cond (leb n (get_or l x 0)) fault (cond (leb (get_or z (get_or l x 0) 0) (get_or z x 0)) fault up)

  pub seen_many : 512 < n → seen l z n x ≡ fault
  unfolding seen
  seen_many h = rw (lt-ltb 512 n h)

  pub seen_none : get_or z x 0 ≡ 0 → seen l z n x ≡ fault
  unfolding seen
  seen_none h = rw (eq-eqb (get_or z x 0) 0 h) (cond_same (ltb 512 n) fault)

  pub seen_over : n < get_or z x 0 → seen l z n x ≡ fault
  unfolding seen
  seen_over h = rw (lt-ltb n (get_or z x 0) h, cond_same (eqb (get_or z x 0) 0) fault) (cond_same (ltb 512 n) fault)

  module _ (m : SizedElement z n x) where
    seen_met : seen l z n x ≡ cond (eqb (get_or l x 0) x) top parent_seen
    unfolding seen parent_seen
    seen_met = rw (le-ltb 512 n m.few, ne_eqb (get_or z x 0) 0 (λ e. omega (arith, m.some)), le-ltb n (get_or z x 0) m.fits)

    pub seen_top : get_or l x 0 ≡ x → seen l z n x ≡ top
    seen_top r = seen_met ∙ rw (eq-eqb (get_or l x 0) x r)

    module _ (apart : get_or l x 0 ≡ x → ⊥) where
      seen_parent : seen l z n x ≡ parent_seen
      seen_parent = seen_met ∙ rw (ne_eqb (get_or l x 0) x apart)

      pub seen_outside : n ≤ get_or l x 0 → seen l z n x ≡ fault
      unfolding parent_seen
      seen_outside h = seen_parent ∙ rw (le-leb n (get_or l x 0) h)

      pub seen_small : get_or z (get_or l x 0) 0 ≤ get_or z x 0 → seen l z n x ≡ fault
      unfolding parent_seen
      seen_small h = seen_parent ∙ rw (le-leb (get_or z (get_or l x 0) 0) (get_or z x 0) h) (cond_same (leb n (get_or l x 0)) fault)

      pub seen_up : get_or l x 0 < n → get_or z x 0 < get_or z (get_or l x 0) 0 → seen l z n x ≡ up
      unfolding parent_seen
      seen_up h g = seen_parent ∙ rw (lt-leb n (get_or l x 0) h, lt-leb (get_or z (get_or l x 0) 0) (get_or z x 0) g)

-- the facts, from what is seen
pub record Higher (l z : List ℕ) (n x : ℕ) : Type 0 where
  pub apart : get_or l x 0 ≡ x → ⊥
  pub inside : get_or l x 0 < n
  pub grows : get_or z x 0 < get_or z (get_or l x 0) 0

top_up : top ≡ up → ⊥
top_up e = let q : ◌≡◌ {A = ℕ} 0 1 = cc in omega arith

pub fault_top : fault ≡ top → ⊥
fault_top e = let q : ◌≡◌ {A = ℕ} 0 1 = cc in omega arith

pub fault_up : fault ≡ up → ⊥
fault_up e = let q : ◌≡◌ {A = ℕ} 0 1 = cc in omega arith

module _ (l z : List ℕ) (n x : ℕ) where
  no_fault : (s : Seen) → (fault ≡ s → ⊥) → seen l z n x ≡ s → (x < n → SizedElement z n x) × (cond (eqb (get_or l x 0) x) top (parent_seen l z n x) ≡ s)
  unfolding seen parent_seen
  no_fault s h e =
      let q₁ = cond_else (ltb 512 n) fault _ s h e in
      let q₂ = cond_else (eqb (get_or z x 0) 0) fault _ s h q₁.1 in
      let q₃ = cond_else (ltb n (get_or z x 0)) fault _ s h q₂.1 in
      let a = eqb-false (get_or z x 0) 0 q₂.0 in
      (λ i. record { few = ltb-false 512 n q₁.0; inside = i; some = omega arith; fits = ltb-false n (get_or z x 0) q₃.0 }, q₃.1)

  higher : cond (eqb (get_or l x 0) x) top (parent_seen l z n x) ≡ up → Higher l z n x
  unfolding parent_seen
  higher e =
      let q₁ = cond_else (eqb (get_or l x 0) x) top _ up top_up e in
      let q₂ = cond_else (leb n (get_or l x 0)) fault _ up fault_up q₁.1 in
      let q₃ = cond_else (leb (get_or z (get_or l x 0) 0) (get_or z x 0)) fault up up fault_up q₂.1 in
      record { apart = eqb-false (get_or l x 0) x q₁.0; inside = leb-false n (get_or l x 0) q₂.0; grows = leb-false (get_or z (get_or l x 0) 0) (get_or z x 0) q₃.0 }

  own : (b : Bool) → eqb (get_or l x 0) x ≡ b → cond b top (parent_seen l z n x) ≡ top → get_or l x 0 ≡ x
  unfolding parent_seen
  own true t e = eqb-true (get_or l x 0) x t
  own false t e =
      let q = cond_else (leb n (get_or l x 0)) fault _ top fault_top e in
      absurd (top_up (sym (cond_else (leb (get_or z (get_or l x 0) 0) (get_or z x 0)) fault up top fault_top q.1).1))

  pub at_top : x < n → seen l z n x ≡ top → SizedElement z n x × (get_or l x 0 ≡ x)
  at_top i e = let q = no_fault top fault_top e in (q.0 i, own (eqb (get_or l x 0) x) refl q.1)

  pub at_up : seen l z n x ≡ up → (x < n → SizedElement z n x) × Higher l z n x
  at_up e = let q = no_fault up fault_up e in (q.0, higher q.1)

-- the steps of a way
module _ (l z : List ℕ) (n : ℕ) where
  step : (k x : ℕ) {s : Seen} → seen l z n x ≡ s → walk (suc k) l z n x ≡ onward x l s (walk k l z n (get_or l x 0))
  unfolding walk
  step k x e = ap (λ (s : Seen). onward x l s (walk k l z n (get_or l x 0))) e

  -- more steps than n less the size of x give the same
  same_walk : (j k x : ℕ) → n < j + get_or z x 0 → n < k + get_or z x 0 → walk j l z n x ≡ walk k l z n x
  unfolding walk
  same_walk zero zero x a b = refl
  same_walk zero (suc k) x a b = sym (step k x (seen_over l z n x (omega arith)))
  same_walk (suc j) zero x a b = step j x (seen_over l z n x (omega arith))
  same_walk (suc j) (suc k) x a b = by_seen (same_walk j k (get_or l x 0)) (seen l z n x) refl
    where
      p : ℕ
      p = get_or l x 0

      by_seen : (n < j + get_or z p 0 → n < k + get_or z p 0 → walk j l z n p ≡ walk k l z n p) → (s : Seen) → seen l z n x ≡ s → onward x l s (walk j l z n p) ≡ onward x l s (walk k l z n p)
      by_seen ih top e = refl
      by_seen ih fault e = refl
      by_seen ih up e = let h = (at_up l z n x e).1 in ap (point x) (ih (omega (arith, h.grows)) (omega (arith, h.grows)))

module _ (l z : List ℕ) (n x : ℕ) where
  pub way_fault : seen l z n x ≡ fault → way l z n x ≡ broken
  unfolding way
  way_fault e = step l z n n x e

  pub way_top : seen l z n x ≡ top → way l z n x ≡ reached x l
  unfolding way
  way_top e = step l z n n x e

  pub way_up : seen l z n x ≡ up → way l z n x ≡ point x (way l z n (get_or l x 0))
  unfolding way
  way_up e =
      let h = (at_up l z n x e).1 in
      step l z n n x e ∙ ap (point x) (same_walk l z n n (suc n) (get_or l x 0) (omega (arith, h.grows)) (omega (arith, h.grows)))
