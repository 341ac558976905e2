-- The next cut among sorted ranges: a range that starts above a symbol ends the search for it, and what each record of a run does to the cut found so far.
use Prim.Native.Nat.{ℕ, suc, ◌+◌, ◌≤◌, ◌<◌, min}
use mathlib.Core.Bool.{Bool, true, false, cond}
use mathlib.Core.List.Memᴰ
use mathlib.Core.List.{List, [], ◌∷◌}
use mathlib.Core.Logic.{⊎_elim}
use mathlib.Core.Path.{◌≡◌, refl, sym, ◌∙◌, ap, subst}
use native.Mathlib.Numerals.{add-one}
use native.Mathlib.Omega.{arith}
use borrow.Author.Tests.{lt-ltb, le-ltb, ltb-true, ltb-false}
use lib.Dec.{ltb}
use lib.ListN.{length, get_or, drop}
use Rattle.lists.specs.Lists.{◌∈◌}
use Rattle.automata.specs.Automaton.{Transition}
use Rattle.automata.specs.inner.Records.{record_at}
use Rattle.lists.proofs.Members.{ascending_first}
use Rattle.ranges.specs.Cuts.{nearer, next_cut}
use Rattle.ranges.specs.Missing.{SortedRanges}
use Rattle.ranges.proofs.Held.{rest_sorted}
use Rattle.ranges.proofs.Runs.{ranges_in, ranges_end, ranges_at, ranges_skip}

module _ (a c b : ℕ) where
  nearer_far : b ≤ c → nearer a c b ≡ b
  unfolding nearer
  nearer_far h = rw (le-ltb c b h) (go (ltb a c))
    where
      go : (x : Bool) → cond x b b ≡ b
      go true = refl
      go false = refl

  nearer_past : c ≤ a → nearer a c b ≡ b
  unfolding nearer
  nearer_past h = rw (le-ltb a c h)

  nearer_min : a < c → nearer a c b ≡ min c b
  unfolding nearer
  nearer_min h = rw (lt-ltb a c h) (go (ltb c b) refl)
    where
      go : (x : Bool) → ltb c b ≡ x → cond x c b ≡ min c b
      go true e = omega (arith, ltb-true c b e)
      go false e = omega (arith, ltb-false c b e)

-- ranges that start at top or above don't cut below it
next_far : (a top : ℕ) (es : List Transition) → ((e : Transition) → e ∈ es → (top ≤ e.first) × (top ≤ e.last)) → next_cut a top es ≡ top
unfolding next_cut
next_far a top [] h = refl
next_far a top (e ∷ es) h =
    let k = h e (Memᴰ.head refl) in
    rw (nearer_far a (suc e.last) top (omega (arith, k.1)), nearer_far a e.first top k.0) (next_far a top es (λ d m. h d (Memᴰ.tail m)))

-- what the first range does to the next cut: nothing where it lies below a; where it holds a, the span ends with it; where it starts above a, the span ends
-- before it, whatever ranges follow
module _ (a top : ℕ) (e : Transition) (es : List Transition) where
  next_below : e.first ≤ a → e.last < a → next_cut a top (e ∷ es) ≡ next_cut a top es
  unfolding next_cut
  next_below f l = rw (nearer_past a (suc e.last) top l, nearer_past a e.first top f)

  next_holds : e.first ≤ a → a ≤ e.last → next_cut a top (e ∷ es) ≡ next_cut a (min (suc e.last) top) es
  unfolding next_cut
  next_holds f l = rw (nearer_min a (suc e.last) top (omega arith), nearer_past a e.first (min (suc e.last) top) f)

  next_above : SortedRanges (e ∷ es) → a < e.first → next_cut a top (e ∷ es) ≡ min e.first top
  unfolding next_cut
  next_above s h =
      let l = s.full e (Memᴰ.head refl) in
      let n : nearer a e.first (nearer a (suc e.last) top) ≡ min e.first top =
      rw (nearer_min a (suc e.last) top (omega arith), nearer_min a e.first (min (suc e.last) top) h) (omega arith) in
      ap (λ t. next_cut a t es) n
      ∙ next_far a (min e.first top) es (λ d m. let f = ascending_first s.rises d m in let g = s.full d (Memᴰ.tail m) in (omega arith, omega arith))

-- a range that starts above a symbol, and all that follow it
pub sorted_above : (a : ℕ) (e : Transition) (es : List Transition) → SortedRanges (e ∷ es) → a < e.first → (d : Transition) → d ∈ e ∷ es → a < d.first
sorted_above a e es s h d m = ⊎_elim (λ (q : d ≡ e). rw q h) (λ m. let f = ascending_first s.rises d m in omega arith) (Memᴰ.cases_cons m)

-- the ranges of a run from the record at a place on
module _ (rs : List (List ℕ)) (i : ℕ) (o : SortedRanges (ranges_in (drop i rs))) (h : i < length rs) where
  pub sorted_skip : (get_or (get_or rs i []) 1 0 ≡ 1 → ⊥) → SortedRanges (ranges_in (drop (i + 1) rs))
  sorted_skip k = subst SortedRanges (ranges_skip rs i h k) o

  pub sorted_next : get_or (get_or rs i []) 1 0 ≡ 1 → SortedRanges (ranges_in (drop (i + 1) rs))
  sorted_next k = rest_sorted (subst SortedRanges (ranges_at rs i h k) o)

-- the next cut: what is found among the ranges before `at`, and the ranges from there on
module _ (rs : List (List ℕ)) (a top found i : ℕ) (c : ℕ) (e : next_cut a found (ranges_in (drop i rs)) ≡ c) where
  pub cut_ended : length rs ≤ i → found ≡ c
  unfolding next_cut
  cut_ended h = sym (ap (next_cut a found) (ranges_end rs i h)) ∙ e

  module _ (h : i < length rs) where
    pub cut_skip : (get_or (get_or rs i []) 1 0 ≡ 1 → ⊥) → next_cut a found (ranges_in (drop (i + 1) rs)) ≡ c
    cut_skip k = sym (ap (next_cut a found) (ranges_skip rs i h k)) ∙ e

    module _ (k : get_or (get_or rs i []) 1 0 ≡ 1) where
      here : next_cut a found (record_at (get_or rs i []) 0 ∷ ranges_in (drop (i + 1) rs)) ≡ c
      here = sym (ap (next_cut a found) (ranges_at rs i h k)) ∙ e

      pub cut_below : get_or (get_or rs i []) 2 0 ≤ a → get_or (get_or rs i []) 3 0 < a → next_cut a found (ranges_in (drop (i + 1) rs)) ≡ c
      cut_below f l = sym (next_below a found (record_at (get_or rs i []) 0) (ranges_in (drop (i + 1) rs)) f l) ∙ here

      pub cut_holds : get_or (get_or rs i []) 2 0 ≤ a → a ≤ get_or (get_or rs i []) 3 0 → (r : ℕ) → r ≡ min (get_or (get_or rs i []) 3 0 + 1) found
          → next_cut a r (ranges_in (drop (i + 1) rs)) ≡ c
      cut_holds f l r q =
          ap (λ t. next_cut a t (ranges_in (drop (i + 1) rs))) (q ∙ ap (λ x. min x found) (add-one (get_or (get_or rs i []) 3 0)))
          ∙ sym (next_holds a found (record_at (get_or rs i []) 0) (ranges_in (drop (i + 1) rs)) f l)
          ∙ here

      pub cut_above : SortedRanges (ranges_in (drop i rs)) → a < get_or (get_or rs i []) 2 0 → (r : ℕ) → r ≡ min (get_or (get_or rs i []) 2 0) found → r ≡ c
      cut_above o l r q = q ∙ sym (next_above a found (record_at (get_or rs i []) 0) (ranges_in (drop (i + 1) rs)) (subst SortedRanges (ranges_at rs i h k) o) l) ∙ here
