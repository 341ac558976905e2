-- Spans that lie apart: two such lists with the same symbols are the same, so there is only one list of holes.
use Prim.Native.Nat.{ℕ, suc, ◌≤◌, ◌<◌}
use mathlib.Core.Bool.{false}
use mathlib.Core.List.Memᴰ
use mathlib.Core.List.{List, [], ◌∷◌}
use mathlib.Core.Logic.{◌⊎◌, inl, inr, ⊎_elim}
use mathlib.Core.Path.{◌≡◌, refl, sym, ap₂}
use native.Mathlib.Nat.{le_antisymm}
use native.Mathlib.Omega.{arith}
use borrow.Author.Tests.{leb-true, leb-false}
use lib.Dec.{leb}
use Rattle.lists.specs.Lists.{◌∈◌, Ascending}
use Rattle.lists.proofs.Tests.{test}
use Rattle.lists.proofs.Members.{ascending_first, ascending_rest}
use Rattle.automata.specs.Automaton.{Transition}
use Rattle.ranges.specs.Span.{Span, InSpan}
use Rattle.ranges.specs.Missing.{InSomeSpan, SpansApart, Holes}

span_eq : (s t : Span) → s.first ≡ t.first → s.last ≡ t.last → s ≡ t
span_eq s t p q = λ i. record { first = p i; last = q i }

-- spans that ascend apart, none empty
record Separate (hs : List Span) : Type 0 where
  ascends : Ascending SpansApart hs
  full : (s : Span) → s ∈ hs → s.first ≤ s.last

rest_separate : {s : Span} {hs : List Span} → Separate (s ∷ hs) → Separate hs
rest_separate p = record { ascends = ascending_rest p.ascends; full = λ t m. p.full t (Memᴰ.tail m) }

pub split : {x : ℕ} (s : Span) (hs : List Span) → InSomeSpan x (s ∷ hs) → InSpan x s ⊎ InSomeSpan x hs
split {x} s hs (t, m, i) = ⊎_elim (λ (q : t ≡ s). inl (rw q at i)) (λ k. inr (t, k, i)) (Memᴰ.cases_cons m)

pub here : {x : ℕ} (s : Span) (hs : List Span) → s.first ≤ x → x ≤ s.last → InSomeSpan x (s ∷ hs)
here s hs l u = (s, Memᴰ.head refl, record { above = l; below = u })

pub there : {x : ℕ} (s : Span) {hs : List Span} → InSomeSpan x hs → InSomeSpan x (s ∷ hs)
there s (t, m, i) = (t, Memᴰ.tail m, i)

module _ (s : Span) (hs : List Span) (p : Separate (s ∷ hs)) where
  full_first : s.first ≤ s.last
  full_first = p.full s (Memᴰ.head refl)

  -- the first span's first is the least symbol, and every symbol of the others lies apart from it
  first_within : InSomeSpan s.first (s ∷ hs)
  first_within = here s hs (omega arith) full_first

  beyond : (x : ℕ) → InSomeSpan x hs → suc s.last < x
  beyond x (t, m, i) = let a = ascending_first p.ascends t m in omega (arith, i.above)

  first_least : (x : ℕ) → InSomeSpan x (s ∷ hs) → s.first ≤ x
  first_least x w = ⊎_elim (λ (i : InSpan x s). i.above) (λ (v : InSomeSpan x hs). omega (arith, beyond x v, full_first)) (split s hs w)

module _ (s t : Span) (hs ks : List Span) (p : Separate (s ∷ hs)) (q : Separate (t ∷ ks)) where
  -- a span with all the symbols of another list's first ends no earlier
  last_least : s.first ≡ t.first → ((x : ℕ) → InSomeSpan x (t ∷ ks) → InSomeSpan x (s ∷ hs)) → t.last ≤ s.last
  last_least e h =
      ⊎_elim (λ c. leb-true _ _ c)
      (λ (c : leb t.last s.last ≡ false).
      let l : s.last < t.last = leb-false _ _ c in
      let f = full_first s hs p in
      let x = suc s.last in
      ⊎_elim (λ (i : InSpan x s). absurd (omega (arith, i.below))) (λ (v : InSomeSpan x hs). absurd (omega (arith, beyond s hs p x v)))
      (split s hs (h x (here t ks (omega arith) (omega arith)))))
      (test (leb t.last s.last))

  rest_within : s.last ≡ t.last → ((x : ℕ) → InSomeSpan x (s ∷ hs) → InSomeSpan x (t ∷ ks)) → (x : ℕ) → InSomeSpan x hs → InSomeSpan x ks
  rest_within e h x v =
      ⊎_elim (λ (i : InSpan x t). absurd (omega (arith, i.below, beyond s hs p x v))) (λ w. w) (split t ks (h x (there s v)))

-- separate spans with the same symbols are the same spans
same_symbols : (hs ks : List Span) → Separate hs → Separate ks → ((x : ℕ) → InSomeSpan x hs → InSomeSpan x ks) → ((x : ℕ) → InSomeSpan x ks → InSomeSpan x hs) → hs ≡ ks
same_symbols [] [] p q f g = refl
same_symbols [] (t ∷ ks) p q f g = absurd (Memᴰ.not-nil (g t.first (first_within t ks q)).1)
same_symbols (s ∷ hs) [] p q f g = absurd (Memᴰ.not-nil (f s.first (first_within s hs p)).1)
same_symbols (s ∷ hs) (t ∷ ks) p q f g =
    let a : t.first ≤ s.first = first_least t ks q s.first (f s.first (first_within s hs p)) in
    let b : s.first ≤ t.first = first_least s hs p t.first (g t.first (first_within t ks q)) in
    let l : s.first ≡ t.first = le_antisymm b a in
    let u : s.last ≡ t.last = le_antisymm (last_least t s ks hs q p (sym l) f) (last_least s t hs ks p q l g) in
    ap₂ ◌∷◌ (span_eq s t l u)
    (same_symbols hs ks (rest_separate p) (rest_separate q) (rest_within s t hs ks p q u f) (rest_within t s ks hs q p (sym u) g))

-- there is one list of holes
pub holes_unique : (lower upper : ℕ) (es : List Transition) (hs ks : List Span) → Holes lower upper es hs → Holes lower upper es ks → hs ≡ ks
holes_unique lower upper es hs ks p q =
    same_symbols hs ks (record { ascends = p.ascends; full = p.full }) (record { ascends = q.ascends; full = q.full })
    (λ x w. (q.exact x).1 ((p.exact x).0 w)) (λ x w. (p.exact x).1 ((q.exact x).0 w))
