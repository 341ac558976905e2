-- The pass over sorted ranges gives the holes.
use Prim.Native.Nat.{ℕ, suc, ◌-◌, ◌≤◌, ◌<◌, min, max}
use mathlib.Core.Bool.{true, false}
use mathlib.Core.List.Memᴰ
use mathlib.Core.List.{List, [], ◌∷◌, ◌++◌}
use mathlib.Core.Logic.{⊎_elim}
use mathlib.Core.Path.{◌≡◌, refl}
use native.Mathlib.Omega.{arith}
use borrow.Author.Tests.{leb-true, leb-false, lt-ltb, le-ltb, ltb-true, ltb-false}
use lib.Dec.{leb, ltb}
use Rattle.lists.specs.Lists.{◌∈◌, Ascending}
use Rattle.lists.proofs.Tests.{test}
use Rattle.lists.proofs.Members.{ascending_first}
use Rattle.automata.specs.Automaton.{Transition}
use Rattle.ranges.specs.Span.{Span, InSpan}
use Rattle.ranges.specs.Missing.{Free, InSomeSpan, Holes, SortedRanges}
use Rattle.ranges.specs.inner.Missing.{gap, scan}
use Rattle.ranges.proofs.Separate.{split, here, there}
use Rattle.ranges.proofs.Held.{not_held, past, free_cons, rest_sorted}

-- a gap is one span or none
pub gap_some : (a b : ℕ) → a < b → gap a b ≡ record { first = a; last = b - 1 } ∷ []
unfolding gap
gap_some a b h = rw (lt-ltb a b h)

pub gap_none : (a b : ℕ) → b ≤ a → gap a b ≡ []
unfolding gap
gap_none a b h = rw (le-ltb a b h)

module _ (upper : ℕ) where
  -- what is left when no range is
  end_holes : (c : ℕ) → Holes c upper [] (gap c (suc upper))
  end_holes c = ⊎_elim (λ t. some (leb-true c upper t)) (λ t. nothing (leb-false c upper t)) (test (leb c upper))
    where
      sp : Span
      sp = record { first = c; last = suc upper - 1 }

      some : c ≤ upper → Holes c upper [] (gap c (suc upper))
      some h =
          rw (gap_some c (suc upper) (omega arith))
          (record {
            ascends = Ascending.more (λ y m. absurd (Memᴰ.not-nil m)) Ascending.none;
            full = λ s m. ⊎_elim (λ (q : s ≡ sp). rw q (omega arith)) (λ m. absurd (Memᴰ.not-nil m)) (Memᴰ.cases_cons m);
            exact = λ x. (
              λ w.
                  ⊎_elim (λ (i : InSpan x sp). (i.above, omega (arith, i.below), λ e m. absurd (Memᴰ.not-nil m))) (λ (v : InSomeSpan x []). absurd (Memᴰ.not-nil v.1))
                  (split sp [] w),
              λ f. here sp [] f.0 (omega (arith, f.1)),
            );
          })

      nothing : upper < c → Holes c upper [] (gap c (suc upper))
      nothing h =
          rw (gap_none c (suc upper) (omega arith))
          (record {
            ascends = Ascending.none;
            full = λ s m. absurd (Memᴰ.not-nil m);
            exact = λ x. (λ w. absurd (Memᴰ.not-nil w.1), λ f. absurd (omega (arith, f.0, f.1)));
          })

  -- one range more, at or before the others
  module _ (c : ℕ) (e : Transition) (es : List Transition) (p : SortedRanges (e ∷ es)) (hs : List Span) (r : Holes (max c (suc e.last)) upper es hs) where
    full_range : e.first ≤ e.last
    full_range = p.full e (Memᴰ.head refl)

    sound : (x : ℕ) → InSomeSpan x hs → (c ≤ x) × (x ≤ upper) × Free x (e ∷ es)
    sound x w =
        let y = (r.exact x).0 w in
        (omega (arith, y.0), y.1, free_cons x e es (not_held x e (λ b. omega (arith, y.0, b.1))) y.2)

    behind : (x : ℕ) → c ≤ x → x ≤ upper → Free x (e ∷ es) → e.first ≤ x → InSomeSpan x hs
    behind x l u f g =
        let a = past x e (f e (Memᴰ.head refl)) g in
        (r.exact x).1 (omega arith, u, λ d m. f d (Memᴰ.tail m))

    range_holes : Holes c upper (e ∷ es) (gap c (min e.first (suc upper)) ++ hs)
    range_holes = ⊎_elim (λ t. some (ltb-true c b t)) (λ t. nothing (ltb-false c b t)) (test (ltb c b))
      where
        b : ℕ
        b = min e.first (suc upper)

        sp : Span
        sp = record { first = c; last = b - 1 }

        free_before : (x : ℕ) → x < e.first → Free x (e ∷ es)
        free_before x h = free_cons x e es (not_held x e (λ i. omega (arith, i.0))) (λ d m. let y = ascending_first p.rises d m in not_held x d (λ i. omega (arith, i.0)))

        first_behind : (s : Span) → s ∈ hs → max c (suc e.last) ≤ s.first
        first_behind s m = ((r.exact s.first).0 (s, m, record { above = omega arith; below = r.full s m })).0

        some : c < b → Holes c upper (e ∷ es) (gap c b ++ hs)
        some h =
            rw (gap_some c b h)
            (record {
              ascends = Ascending.more {x = sp} (λ s m. let y = first_behind s m in omega (arith, full_range)) r.ascends;
              full = λ s m. ⊎_elim (λ (q : s ≡ sp). rw q (omega arith)) (λ m. r.full s m) (Memᴰ.cases_cons m);
              exact = λ x. (
                λ w.
                    ⊎_elim (λ (i : InSpan x sp). (i.above, omega (arith, i.below), free_before x (omega (arith, i.below)))) (λ v. sound x v) (split sp hs w),
                λ f.
                    ⊎_elim (λ (k : ltb x e.first ≡ true). let y = ltb-true x e.first k in here sp hs f.0 (omega (arith, f.1)))
                    (λ (k : ltb x e.first ≡ false). there sp (behind x f.0 f.1 f.2 (ltb-false x e.first k)))
                    (test (ltb x e.first)),
              );
            })

        nothing : b ≤ c → Holes c upper (e ∷ es) (gap c b ++ hs)
        nothing h =
            rw (gap_none c b h)
            (record { ascends = r.ascends; full = r.full; exact = λ x. (sound x, λ f. behind x f.0 f.1 f.2 (omega (arith, f.0, f.1))) })

  pub scan_holes : (c : ℕ) (es : List Transition) → SortedRanges es → Holes c upper es (scan c upper es)
  unfolding scan
  scan_holes c [] p = end_holes c
  scan_holes c (e ∷ es) p = range_holes c e es p (scan (max c (suc e.last)) upper es) (scan_holes (max c (suc e.last)) es (rest_sorted p))
