-- The spans between cuts that no range holds are the holes, which the pass over sorted ranges gives too.
use Prim.Native.Nat.{ℕ, zero, suc, ◌-◌, ◌≤◌, ◌<◌}
use mathlib.Core.Bool.{Bool, true, false, not, false≢true}
use mathlib.Core.List.Memᴰ
use mathlib.Core.List.{List}
use mathlib.Core.Logic.{⊎_elim}
use mathlib.Core.Path.{◌≡◌, refl, sym, ◌∙◌}
use native.Mathlib.Nat.{eq-or-lt_of_le}
use native.Mathlib.Omega.{arith}
use borrow.Author.Tests.{leb-true, ltb-true, not-true}
use lib.Dec.{leb, ltb}
use Rattle.lists.specs.Lists.{◌∈◌, any, filter, Ascending}
use Rattle.lists.proofs.Tests.{test, and_parts}
use Rattle.lists.proofs.Lists.{any_out, filter_in, filter_out}
use Rattle.automata.specs.Automaton.{Transition, holds}
use Rattle.ranges.specs.Span.{Span}
use Rattle.ranges.proofs.Inside.{inside}
use Rattle.ranges.specs.Cuts.{next_cut, spans, cut_all}
use Rattle.ranges.specs.Missing.{covered, missing, Free, SpansApart, Holes, SortedRanges}
use Rattle.ranges.specs.inner.Missing.{scan}
use Rattle.ranges.proofs.Cuts.{next_gt, next_cuts, next_is, cut_one}
use Rattle.ranges.proofs.Spans.{Stretch, stretches, stretch_alike, cut_stretch}
use Rattle.ranges.proofs.Separate.{holes_unique}
use Rattle.ranges.proofs.Held.{held, past}
use Rattle.ranges.proofs.Scanned.{scan_holes}
use Rattle.lists.proofs.Every.{any_none}

module _ (es : List Transition) where
  -- no range holds the span's first symbol
  unfoldable unheld : Span → Bool
  unheld s = not (covered es s)

  unheld_free : (s : Span) → unheld s ≡ true → Free s.first es
  unfolding unheld covered
  unheld_free s h = any_none (holds s.first) es (not-true _ h)

  free_unheld : (s : Span) → Free s.first es → unheld s ≡ true
  unfolding unheld covered
  free_unheld s g =
      ⊎_elim (λ (t : any (holds s.first) es ≡ true). let r = any_out (holds s.first) es t in absurd (false≢true (sym (g r.0 r.1) ∙ r.2)))
      (λ (t : any (holds s.first) es ≡ false). rw t)
      (test (any (holds s.first) es))

module _ (top : ℕ) (es : List Transition) (full : (e : Transition) → e ∈ es → e.first ≤ e.last) where
  -- a free span ends where some range begins
  next_held : (a : ℕ) → a < top → Free a es → next_cut a top es < top → Free (next_cut a top es) es → ⊥
  next_held a h f l g =
      ⊎_elim (λ (q : next_cut a top es ≡ top). omega arith)
      (λ r.
      let e = r.0 in
      let m = r.1 in
      let n = next_gt a top es h in
      let w = full e m in
      ⊎_elim (λ (q : next_cut a top es ≡ e.first). false≢true (sym (g e m) ∙ held (next_cut a top es) e (omega arith) (omega arith)))
      (λ (q : next_cut a top es ≡ suc e.last).
      ⊎_elim (λ (k : e.first ≤ a). let z = past a e (f e m) k in omega arith) (λ (k : next_cut a top es ≤ e.first). omega arith) (next_cuts a top m).0)
      r.2)
      (next_is a top es)

  unheld_apart : (n a : ℕ) → Ascending SpansApart (filter (unheld es) (spans n a top es))
  unfolding spans filter
  unheld_apart zero a = Ascending.none
  unheld_apart (suc n) a =
      ⊎_elim
      (λ (t : ltb a top ≡ true).
      let h : a < top = ltb-true a top t in
      let b = next_cut a top es in
      let sp : Span = record { first = a; last = b - 1 } in
      let l : a < b = next_gt a top es h in
      ⊎_elim
      (λ (c : unheld es sp ≡ true).
      let g : (s : Span) → s ∈ filter (unheld es) (spans n b top es) → SpansApart sp s =
      λ s m.
      let k = filter_out (unheld es) s (spans n b top es) m in
      let v = stretches top es n b s k.0 in
      let z = v.full in
      let x = v.below in
      ⊎_elim (λ (q : b ≡ s.first). absurd (next_held a h (unheld_free es sp c) (omega arith) (rw q (unheld_free es s k.1))))
      (λ (q : b < s.first). omega arith)
      (eq-or-lt_of_le v.above) in
      rw (t, c) (Ascending.more g (unheld_apart n b)))
      (λ (c : unheld es sp ≡ false). rw (t, c) (unheld_apart n b))
      (test (unheld es sp)))
      (λ (t : ltb a top ≡ false). rw t Ascending.none)
      (test (ltb a top))

-- the spans between cuts that no range holds are the holes
pub missing_holes : (lower upper : ℕ) (es : List Transition) → ((e : Transition) → e ∈ es → e.first ≤ e.last) → Holes lower upper es (missing lower upper es)
unfolding missing unheld inside
missing_holes lower upper es full =
    let all = cut_all lower upper es in
    let alike = stretch_alike (suc upper) es lower in
    let out : (s : Span) → s ∈ filter (unheld es) all → Stretch (suc upper) es lower s × Free s.first es =
    λ s m. let k = filter_out (unheld es) s all m in (cut_stretch lower upper es s k.0, unheld_free es s k.1) in
    record {
      ascends = unfold cut_all in unheld_apart (suc upper) es full (suc upper - lower) lower;
      full = λ s m. (out s m).0.full;
      exact = λ x. (
        λ (s, m, i).
            let r = out s m in
            let v = r.0 in
            (omega (arith, v.above, i.above), omega (arith, v.below, i.below), λ e k. alike s v x i.above i.below e k ∙ r.1 e k),
        λ (l, u, g).
            let o = cut_one upper es lower x l u in
            let s = o.0 in
            let k = filter_out (inside x) s all (rw o.1 (Memᴰ.head refl)) in
            let i = and_parts (leb s.first x) _ k.1 in
            let a = leb-true s.first x i.0 in
            let b = leb-true x s.last i.1 in
            let v = cut_stretch lower upper es s k.0 in
            (s, filter_in (unheld es) k.0 (free_unheld es s (λ e m. sym (alike s v x a b e m) ∙ g e m)), record { above = a; below = b }),
      );
    }

-- on sorted ranges one pass gives the holes
pub missing_scan : (lower upper : ℕ) (es : List Transition) → SortedRanges es → missing lower upper es ≡ scan lower upper es
missing_scan lower upper es p = holes_unique lower upper es _ _ (missing_holes lower upper es p.full) (scan_holes upper lower es p)
