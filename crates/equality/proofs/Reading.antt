-- What the code reads of records: the symbols that two of them share. Assumes nothing.
use Rattle.std.proofs.Common.{◌≡◌, ℕ, ◌≤◌, ◌<◌, min, max, Bool, true, false, cond, leb, Option, Some, None, refl, ap, arith, leb-true, leb-false}
use Rattle.automata.specs.Automaton.{Transition}
use Rattle.ranges.specs.Span.{Span, intersect_ranges}
use Rattle.equality.specs.inner.Code.{FirstOf}

-- the answer of `intersect_ranges`
module _ (f₁ l₁ f₂ l₂ : ℕ) where
  abbrev Answered : Option Span → Type 0
  Answered o = o ≡ intersect_ranges (record { first = f₁; last = l₁ }) (record { first = f₂; last = l₂ })

  shared : (f l : ℕ) → Answered (Some (record { first = f; last = l })) → (f ≡ max f₁ f₂) × (l ≡ min l₁ l₂) × (f ≤ l)
  unfolding intersect_ranges
  shared f l = by_test (leb (max f₁ f₂) (min l₁ l₂)) refl
    where
      by_test : (b : Bool) → leb (max f₁ f₂) (min l₁ l₂) ≡ b → ◌≡◌ {A = Option Span} (Some (record { first = f; last = l })) (cond b (Some (record { first = max f₁ f₂; last = min l₁ l₂ })) None) → (f ≡ max f₁ f₂) × (l ≡ min l₁ l₂) × (f ≤ l)
      by_test true t q =
          let s : ◌≡◌ {A = Span} (record { first = f; last = l }) (record { first = max f₁ f₂; last = min l₁ l₂ }) = cc in
          let a = ap (λ (s : Span). s.first) s in
          let b = ap (λ (s : Span). s.last) s in
          (a, b, omega (arith, leb-true (max f₁ f₂) (min l₁ l₂) t))
      by_test false t q = absurd (cc)

  apart : Answered None → min l₁ l₂ < max f₁ f₂
  unfolding intersect_ranges
  apart = by_test (leb (max f₁ f₂) (min l₁ l₂)) refl
    where
      by_test : (b : Bool) → leb (max f₁ f₂) (min l₁ l₂) ≡ b → ◌≡◌ {A = Option Span} None (cond b (Some (record { first = max f₁ f₂; last = min l₁ l₂ })) None) → min l₁ l₂ < max f₁ f₂
      by_test true t q = absurd (cc)
      by_test false t q = leb-false (max f₁ f₂) (min l₁ l₂) t

module _ (d e : Transition) (lower upper : ℕ) where
  pub common_none : Answered d.first d.last e.first e.last None → FirstOf d e lower upper None
  common_none n x c = let o = apart _ _ _ _ n in omega (arith, c.first_one, c.last_one, c.first_two, c.last_two)

  module _ (f l : ℕ) (k : Answered d.first d.last e.first e.last (Some (record { first = f; last = l }))) where
    pub common_outside : Answered f l lower upper None → FirstOf d e lower upper None
    common_outside n x c =
        let s = shared _ _ _ _ f l k in
        let o = apart _ _ _ _ n in
        omega (arith, s.0, s.1, c.first_one, c.last_one, c.first_two, c.last_two, c.above, c.below)

    pub common_symbol : (x y : ℕ) → Answered f l lower upper (Some (record { first = x; last = y })) → FirstOf d e lower upper (Some x)
    common_symbol x y n =
        let s = shared _ _ _ _ f l k in
        let o = shared _ _ _ _ x y n in
        let a = s.0 in
        let b = s.1 in
        let u = o.0 in
        let v = o.1 in
        let w = o.2 in
        record { above = omega arith; below = omega arith; first_one = omega arith; last_one = omega arith; first_two = omega arith; last_two = omega arith }
