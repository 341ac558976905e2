-- The laws by which the functions on a run of records are proved: what one more record does to what those from it on give.
use Rattle.std.proofs.Common.{ℕ, ◌≡◌, ◌+◌, ◌≤◌, ◌<◌, max, Bool, true, false, cond, ◌||◌, eqb, leb, List, [], ◌∷◌, length, get_or, drop, refl, eq-eqb}
use Rattle.std.proofs.lemmas.Bool.{ne_eqb}
use Rattle.lists.specs.Lists.{filter}
use Rattle.automata.specs.Automaton.{Transition, ranges_of}
use Rattle.automata.specs.inner.Chunks.{records_of}
use Rattle.automata.specs.inner.Records.{record_at}
use Rattle.automata.proofs.Chunks.{records_next, records_done}
use Rattle.ranges.specs.Span.{overlaps_from, overlapping}

-- the ranges among records
abbrev pub ranges_in : List (List ℕ) → List Transition
ranges_in rs = ranges_of (records_of rs)

-- whether ranges overlap, where e is one of them or not
from_first : (b : Bool) (end : ℕ) (e : Transition) (es : List Transition)
    → overlaps_from end (cond b (e ∷ es) es) ≡ cond b (leb e.first end || overlaps_from (max end e.last) es) (overlaps_from end es)
unfolding overlaps_from
from_first true end e es = refl
from_first false end e es = refl

with_first : (b : Bool) (e : Transition) (es : List Transition) → overlapping (cond b (e ∷ es) es) ≡ cond b (overlaps_from e.last es) (overlapping es)
unfolding overlapping
with_first true e es = refl
with_first false e es = refl

module _ (rs : List (List ℕ)) (i : ℕ) where
  pub ranges_end : length rs ≤ i → ranges_in (drop i rs) ≡ []
  unfolding ranges_of filter
  ranges_end h = rw (records_done rs i h)

  module _ (h : i < length rs) where
    pub ranges_at : get_or (get_or rs i []) 1 0 ≡ 1 → ranges_in (drop i rs) ≡ record_at (get_or rs i []) 0 ∷ ranges_in (drop (i + 1) rs)
    unfolding ranges_of filter
    ranges_at k = rw (records_next rs i h, eq-eqb _ _ k)

    pub ranges_skip : (get_or (get_or rs i []) 1 0 ≡ 1 → ⊥) → ranges_in (drop i rs) ≡ ranges_in (drop (i + 1) rs)
    unfolding ranges_of filter
    ranges_skip k = rw (records_next rs i h, ne_eqb _ _ k)

    pub overlap_next : overlapping (ranges_in (drop i rs))
        ≡ cond (eqb (get_or (get_or rs i []) 1 0) 1) (overlaps_from (get_or (get_or rs i []) 3 0) (ranges_in (drop (i + 1) rs))) (overlapping (ranges_in (drop (i + 1) rs)))
    unfolding ranges_of filter
    overlap_next = rw (records_next rs i h) (with_first (eqb (get_or (get_or rs i []) 1 0) 1) (record_at (get_or rs i []) 0) (ranges_in (drop (i + 1) rs)))

  pub overlap_done : length rs ≤ i → overlapping (ranges_in (drop i rs)) ≡ false
  unfolding overlapping
  overlap_done h = rw (ranges_end h)

pub below_next : (end : ℕ) (rs : List (List ℕ)) (i : ℕ) → i < length rs
    → overlaps_from end (ranges_in (drop i rs))
    ≡ cond (eqb (get_or (get_or rs i []) 1 0) 1) (leb (get_or (get_or rs i []) 2 0) end || overlaps_from (max end (get_or (get_or rs i []) 3 0)) (ranges_in (drop (i + 1) rs)))
    (overlaps_from end (ranges_in (drop (i + 1) rs)))
unfolding ranges_of filter
below_next end rs i h = rw (records_next rs i h) (from_first (eqb (get_or (get_or rs i []) 1 0) 1) end (record_at (get_or rs i []) 0) (ranges_in (drop (i + 1) rs)))

pub below_done : (end : ℕ) (rs : List (List ℕ)) (i : ℕ) → length rs ≤ i → overlaps_from end (ranges_in (drop i rs)) ≡ false
unfolding overlaps_from
below_done end rs i h = rw (ranges_end rs i h)
