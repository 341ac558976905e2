-- The spans between cuts, one by one: each begins at lower or at a cut, and goes up to the next cut.
use Prim.Native.Nat.{ℕ, zero, suc, ◌-◌, ◌≤◌, ◌<◌}
use mathlib.Core.Bool.{Bool, true, false, cond}
use mathlib.Core.List.Memᴰ
use mathlib.Core.List.{List, [], ◌∷◌}
use mathlib.Core.Logic.{◌⊎◌, inl, inr, ⊎_elim}
use mathlib.Core.Path.{◌≡◌, refl, ◌∙◌}
use native.Mathlib.Omega.{arith}
use borrow.Author.Tests.{leb-true, ltb-true}
use lib.Dec.{leb, ltb}
use Rattle.lists.specs.Lists.{◌∈◌, filter, Ascending}
use Rattle.lists.proofs.Lists.{filter_out}
use Rattle.lists.proofs.Tests.{test, and_parts}
use Rattle.automata.specs.Automaton.{Transition, holds}
use Rattle.ranges.specs.Span.{Span}
use Rattle.ranges.proofs.Inside.{inside}
use Rattle.ranges.specs.Cuts.{Cut, next_cut, spans, cut_all}
use Rattle.ranges.proofs.Cuts.{next_le, next_gt, next_is, next_cuts, next_alike, cut_one}

-- the first has a symbol, and the second lies above it
abbrev pub SpanBefore : Span → Span → Type 0
SpanBefore s t = (s.first ≤ s.last) × (s.last < t.first)

module _ (top : ℕ) (es : List Transition) where
  -- from a on, below top
  pub record Stretch (a : ℕ) (s : Span) : Type 0 where
    pub above : a ≤ s.first
    pub begins : (s.first ≡ a) ⊎ Cut es s.first
    pub ends : suc s.last ≡ next_cut s.first top es
    pub full : s.first ≤ s.last
    pub below : s.last < top

  stretch_first : (a : ℕ) → a < top → Stretch a (record { first = a; last = next_cut a top es - 1 })
  stretch_first a h =
      let l = next_gt a top es h in
      let u = next_le a top es in
      record { above = omega arith; begins = inl refl; ends = omega arith; full = omega arith; below = omega arith }

  stretch_later : (a : ℕ) (s : Span) → a < top → Stretch (next_cut a top es) s → Stretch a s
  stretch_later a s h r =
      let l = next_gt a top es h in
      let b : (s.first ≡ a) ⊎ Cut es s.first =
      ⊎_elim
      (λ (e : s.first ≡ next_cut a top es).
      ⊎_elim (λ (q : next_cut a top es ≡ top). let f = r.full in let u = r.below in absurd (omega arith))
      (λ c. inr (c.0, c.1, ⊎_elim (λ q. inl (e ∙ q)) (λ q. inr (e ∙ q)) c.2))
      (next_is a top es))
      inr r.begins in
      record { above = omega (arith, r.above); begins = b; ends = r.ends; full = r.full; below = r.below }

  pub stretches : (n a : ℕ) (s : Span) → s ∈ spans n a top es → Stretch a s
  unfolding spans
  stretches zero a s m = elim m [ ]
  stretches (suc n) a s m = go (ltb a top) refl m (stretches n (next_cut a top es) s)
    where
      b : ℕ
      b = next_cut a top es

      go : (t : Bool) → ltb a top ≡ t → s ∈ cond t (record { first = a; last = b - 1 } ∷ spans n b top es) [] → (s ∈ spans n b top es → Stretch b s) → Stretch a s
      go true e m ih =
          let h = ltb-true a top e in
          ⊎_elim (λ (q : s ≡ record { first = a; last = b - 1 }). rw q (stretch_first a h)) (λ m. stretch_later a s h (ih m)) (Memᴰ.cases_cons m)
      go false e m ih = elim m [ ]

  -- the ranges don't tell two symbols of it apart
  pub stretch_alike : (a : ℕ) (s : Span) → Stretch a s → (x : ℕ) → s.first ≤ x → x ≤ s.last → (e : Transition) → e ∈ es → holds x e ≡ holds s.first e
  stretch_alike a s r x l u = next_alike s.first top es x l (omega (arith, r.ends))

  spans_ascend : (n a : ℕ) → Ascending SpanBefore (spans n a top es)
  unfolding spans
  spans_ascend zero a = Ascending.none
  spans_ascend (suc n) a =
      ⊎_elim
      (λ (t : ltb a top ≡ true).
      let b = next_cut a top es in
      let l = next_gt a top es (ltb-true _ _ t) in
      let f : (s : Span) → s ∈ spans n b top es → SpanBefore (record { first = a; last = b - 1 }) s = λ s m. let k = (stretches n b s m).above in (omega arith, omega arith) in
      rw t (Ascending.more f (spans_ascend n b)))
      (λ (t : ltb a top ≡ false). rw t Ascending.none)
      (test (ltb a top))

module _ (lower upper : ℕ) (es : List Transition) where
  pub cut_stretch : (s : Span) → s ∈ cut_all lower upper es → Stretch (suc upper) es lower s
  unfolding cut_all
  cut_stretch s m = stretches (suc upper) es (suc upper - lower) lower s m

  pub cut_ascend : Ascending SpanBefore (cut_all lower upper es)
  unfolding cut_all
  cut_ascend = spans_ascend (suc upper) es (suc upper - lower) lower

  -- a span ends before a cut or at upper, and no cut lies inside it
  pub cut_ends : (s : Span) → s ∈ cut_all lower upper es → (s.last ≡ upper) ⊎ Cut es (suc s.last)
  cut_ends s m =
      let r = cut_stretch s m in
      ⊎_elim (λ (q : next_cut s.first (suc upper) es ≡ suc upper). inl (omega (arith, r.ends)))
      (λ c. inr (c.0, c.1, ⊎_elim (λ q. inl (r.ends ∙ q)) (λ q. inr (r.ends ∙ q)) c.2))
      (next_is s.first (suc upper) es)

  pub cut_uncut : (s : Span) → s ∈ cut_all lower upper es → (c : ℕ) → Cut es c → s.first < c → s.last < c
  cut_uncut s m c (e, i, k) l =
      let n = next_cut s.first (suc upper) es in
      let f = (cut_stretch s m).ends in
      let z = next_cuts s.first (suc upper) i in
      ⊎_elim
      (λ (q : c ≡ e.first). ⊎_elim (λ (h : e.first ≤ s.first). absurd (omega arith)) (λ (h : n ≤ e.first). omega arith) z.0)
      (λ (q : c ≡ suc e.last). ⊎_elim (λ (h : suc e.last ≤ s.first). absurd (omega arith)) (λ (h : n ≤ suc e.last). omega arith) z.1)
      k

  pub cut_alike : (s : Span) → s ∈ cut_all lower upper es → (x : ℕ) → s.first ≤ x → x ≤ s.last → (e : Transition) → e ∈ es → holds x e ≡ holds s.first e
  cut_alike s m = stretch_alike (suc upper) es lower s (cut_stretch s m)

  -- the span that holds a symbol
  pub record Containing (a : ℕ) : Type 0 where
    pub span : Span
    pub «in» : span ∈ cut_all lower upper es
    pub above : span.first ≤ a
    pub below : a ≤ span.last
    pub only : filter (inside a) (cut_all lower upper es) ≡ span ∷ []

  pub containing : (a : ℕ) → lower ≤ a → a ≤ upper → Containing a
  unfolding inside
  containing a l u =
      let r = cut_one upper es lower a l u in
      let s = r.0 in
      let m = filter_out (inside a) s (cut_all lower upper es) (rw r.1 (Memᴰ.head refl)) in
      let i = and_parts (leb s.first a) _ m.1 in
      record { span = s; «in» = m.0; above = leb-true _ _ i.0; below = leb-true _ _ i.1; only = r.1 }
