-- What two ranges share, when ranges overlap, and when every symbol has exactly one transition.
use Rattle.std.proofs.Common.{ℕ, suc, ◌≤◌, ◌<◌, min, max, Bool, true, false, cond, List, [], ◌∷◌, ◌⊎◌, inl, inr, ⊎_elim, ◌↔◌, None, Some, ◌≡◌, refl, sym, ◌∙◌, ap, arith, le-leb, leb-true, leb-false, leb, length}
use mathlib.Core.Bool.{false≢true}
use mathlib.Core.List.Memᴰ
use Rattle.lists.specs.Lists.{◌∈◌, any, filter}
use Rattle.lists.proofs.Tests.{test, or_right}
use Rattle.lists.proofs.Lists.{filter_in, filter_none}
use Rattle.automata.specs.Automaton.{Transition, holds}
use Rattle.lists.proofs.Members.{ascending_first}
use Rattle.ranges.specs.Span.{Span, InSpan, InOptionalSpan, intersect_ranges, overlaps_from, overlapping, Shared}
use Rattle.ranges.specs.Missing.{missing, Holes, SortedRanges}
use Rattle.lists.proofs.Every.{any_none}
use Rattle.ranges.proofs.Missing.{missing_holes}
use Rattle.ranges.proofs.Held.{held, holds_ends, rest_sorted}

-- a symbol lies in both ranges exactly when it lies in what they share
pub intersect_exact : (s t : Span) (x : ℕ) → (InSpan x s × InSpan x t) ↔ InOptionalSpan x (intersect_ranges s t)
unfolding intersect_ranges
intersect_exact s t x = go (leb greater_first lesser_last) refl
  where
    greater_first : ℕ
    greater_first = max s.first t.first

    lesser_last : ℕ
    lesser_last = min s.last t.last

    go : (b : Bool) → leb greater_first lesser_last ≡ b → (InSpan x s × InSpan x t) ↔ InOptionalSpan x (cond b (Some (record { first = greater_first; last = lesser_last })) None)
    go true e = (
      λ (i, j). record { above = omega (arith, i.above, j.above); below = omega (arith, i.below, j.below) },
      λ i. (record { above = omega (arith, i.above); below = omega (arith, i.below) }, record { above = omega (arith, i.above); below = omega (arith, i.below) }),
    )
    go false e = (λ (i, j). omega (arith, leb-false greater_first lesser_last e, i.above, j.above, i.below, j.below), λ i. absurd i)

-- an entry that starts at or below `end` is found
below_found : {e : Transition} (end : ℕ) {es : List Transition} → e ∈ es → e.first ≤ end → overlaps_from end es ≡ true
unfolding overlaps_from
below_found {e} end {es = d ∷ es} (Memᴰ.head q) h = rw (le-leb d.first end (rw (ap (λ (t : Transition). t.first) q) at h))
below_found {e = e} end {es = []} x5 h = elim x5 [ ]
below_found end {es = d ∷ es} (Memᴰ.tail m) h = or_right (leb d.first end) _ (below_found (max end d.last) m (omega arith))

below_shared : (end : ℕ) {es : List Transition} → Shared es → overlaps_from end es ≡ true
unfolding overlaps_from
below_shared end {es = []} x'' = elim x'' [ ]
below_shared end {es = d ∷ es} (Shared.first e x m p q) =
    or_right (leb d.first end) _ (below_found (max end d.last) m (omega (arith, (holds_ends x d p).1, (holds_ends x e q).0)))
below_shared end {es = d ∷ es} (Shared.later s) = or_right (leb d.first end) _ (below_shared (max end d.last) s)

-- in a sorted list an entry that starts at or below the end of an earlier one shares its first symbol
first_shared : (d e : Transition) (es : List Transition) → SortedRanges (d ∷ es) → e ∈ es → e.first ≤ d.last → Shared (d ∷ es)
first_shared d e es p m h =
    Shared.first e e.first m (held e.first d (ascending_first p.rises e m) h) (held e.first e (omega arith) (p.full e (Memᴰ.tail m)))

found_below : (end : ℕ) (es : List Transition) → SortedRanges es → overlaps_from end es ≡ true → ((e : Transition) × e ∈ es × (e.first ≤ end)) ⊎ Shared es
unfolding overlaps_from
found_below end [] p h = absurd (false≢true h)
found_below end (d ∷ es) p h =
    let full : d.first ≤ d.last = p.full d (Memᴰ.head refl) in
    ⊎_elim (λ (t : leb d.first end ≡ true). inl (d, Memᴰ.head refl, leb-true _ _ t))
    (λ (t : leb d.first end ≡ false).
    let k : end < d.first = leb-false _ _ t in
    let r : overlaps_from (max end d.last) es ≡ true = rw t at h in
    inr
    (⊎_elim (λ (f : (e : Transition) × e ∈ es × (e.first ≤ max end d.last)). first_shared d f.0 es p f.1 (omega (arith, f.2))) (λ s. Shared.later s)
    (found_below (max end d.last) es (rest_sorted p) r)))
    (test (leb d.first end))

-- sorted ranges overlap exactly when two different ones hold the same symbol
pub overlap_shared : (es : List Transition) → SortedRanges es → (overlapping es ≡ true) ↔ Shared es
unfolding overlapping
overlap_shared es p = (out es p, into es)
  where
    out : (es : List Transition) → SortedRanges es → overlapping es ≡ true → Shared es
    out [] p h = absurd (false≢true h)
    out (d ∷ es) p h =
        ⊎_elim (λ (f : (e : Transition) × e ∈ es × (e.first ≤ d.last)). first_shared d f.0 es p f.1 f.2) (λ s. Shared.later s)
        (found_below d.last es (rest_sorted p) h)

    into : (es : List Transition) → Shared es → overlapping es ≡ true
    into [] x' = elim x' [ ]
    into (d ∷ es) (Shared.first e x m p q) = below_found d.last m (omega (arith, (holds_ends x d p).1, (holds_ends x e q).0))
    into (d ∷ es) (Shared.later s) = below_shared d.last s

-- one transition holds x, or none, where no two hold the same symbol
held_once : (x : ℕ) (es : List Transition) → (Shared es → ⊥) → any (holds x) es ≡ true → (d : Transition) × (filter (holds x) es ≡ d ∷ [])
unfolding any filter
held_once x [] n h = absurd (false≢true h)
held_once x (d ∷ es) n h =
    ⊎_elim
    (λ (t : holds x d ≡ true).
    (d, rw (t, filter_none (holds x) es (λ e m. ⊎_elim (λ (u : holds x e ≡ true). absurd (n (Shared.first e x m t u))) (λ u. u) (test (holds x e))))))
    (λ (t : holds x d ≡ false). rw t (held_once x es (λ s. n (Shared.later s)) (rw t at h)))
    (test (holds x d))

-- a symbol that two transitions hold
shared_twice : {es : List Transition} → Shared es → (x : ℕ) × ((e : Transition) × e ∈ es × (holds x e ≡ true)) × (1 < length (filter (holds x) es))
unfolding filter
shared_twice {es = []} x'' = elim x'' [ ]
shared_twice {es = d ∷ es} (Shared.first e x m p q) = (x, (d, Memᴰ.head refl, p), rw p (more (filter_in (holds x) m q)))
  where
    more : {l : List Transition} → e ∈ l → 1 < suc (length l)
    more (Memᴰ.head h) = omega arith
    more (Memᴰ.tail h) = omega arith
shared_twice {es = d ∷ es} (Shared.later s) =
    let (x, (e, m, h), l) = shared_twice s in
    (x, (e, Memᴰ.tail m, h), more x (holds x d) l)
  where
    more : (x : ℕ) (b : Bool) → 1 < length (filter (holds x) es) → 1 < length (cond b (d ∷ filter (holds x) es) (filter (holds x) es))
    more x true l = omega arith
    more x false l = l

-- of sorted ranges within lower and upper, exactly one holds each symbol exactly when they don't overlap and leave no hole
module _ (lower upper : ℕ) (es : List Transition) (p : SortedRanges es) (within : (e : Transition) → e ∈ es → (lower ≤ e.first) × (e.last ≤ upper)) where
  pub one_each : ((overlapping es ≡ false) × (missing lower upper es ≡ [])) ↔ ((x : ℕ) → lower ≤ x → x ≤ upper → (d : Transition) × (filter (holds x) es ≡ d ∷ []))
  one_each = (λ (o, h) x l u. held_once x es (apart o) (taken h x l u), λ f. (no_overlap f, no_hole f (missing lower upper es) (missing_holes lower upper es p.full)))
    where
      apart : overlapping es ≡ false → Shared es → ⊥
      apart o s = false≢true (sym o ∙ (overlap_shared es p).1 s)

      taken : missing lower upper es ≡ [] → (x : ℕ) → lower ≤ x → x ≤ upper → any (holds x) es ≡ true
      taken h x l u =
          ⊎_elim (λ t. t)
          (λ (t : any (holds x) es ≡ false).
          let w = ((missing_holes lower upper es p.full).exact x).1 (l, u, any_none (holds x) es t) in
          absurd (Memᴰ.not-nil (rw h at w.1)))
          (test (any (holds x) es))

      no_overlap : ((x : ℕ) → lower ≤ x → x ≤ upper → (d : Transition) × (filter (holds x) es ≡ d ∷ [])) → overlapping es ≡ false
      no_overlap f =
          ⊎_elim
          (λ (t : overlapping es ≡ true).
          let (x, (e, m, h), l) = shared_twice ((overlap_shared es p).0 t) in
          let b = within e m in
          let i = holds_ends x e h in
          let one = ap length (f x (omega (arith, b.0, i.0)) (omega (arith, b.1, i.1))).1 in
          absurd (omega arith))
          (λ t. t)
          (test (overlapping es))

      no_hole : ((x : ℕ) → lower ≤ x → x ≤ upper → (d : Transition) × (filter (holds x) es ≡ d ∷ [])) → (hs : List Span) → Holes lower upper es hs → hs ≡ []
      no_hole f [] q = refl
      no_hole f (s ∷ hs) q =
          let (l, u, free) = (q.exact s.first).0 (s, Memᴰ.head refl, record { above = omega arith; below = q.full s (Memᴰ.head refl) }) in
          let one = ap length (sym (filter_none (holds s.first) es free) ∙ (f s.first l u).1) in
          absurd (omega arith)
