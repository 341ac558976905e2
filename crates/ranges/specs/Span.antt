-- Spans of symbols: what two share, and whether ranges overlap (document 01, "Ranges").
use Rattle.std.specs.Prelude.{ℕ, ◌≤◌, ◌<◌, min, max, Bool, true, false, cond, ◌||◌, Option, Some, None, List, [], ◌∷◌, ◌≡◌, leb}
use Rattle.lists.specs.Lists.{◌∈◌}
use Rattle.automata.specs.Automaton.{Transition, Automaton, holds, leaving, ranges_of}

-- the symbols from first to last
pub record Span : Type 0 where
  pub first : ℕ
  pub last : ℕ

-- the symbol x lies in s
pub record InSpan (x : ℕ) (s : Span) : Type 0 where
  pub above : s.first ≤ x
  pub below : x ≤ s.last

-- the symbol x lies in the span that there may be
abbrev pub InOptionalSpan : ℕ → Option Span → Type 0
InOptionalSpan x None = ⊥
InOptionalSpan x (Some s) = InSpan x s

-- the common symbols of two ranges, or none
unfoldable pub intersect_ranges : Span → Span → Option Span
intersect_ranges s t =
    cond (leb (max s.first t.first) (min s.last t.last))
    (Some (record { first = max s.first t.first; last = min s.last t.last }))
    None

-- the answer of `intersect_ranges`
abbrev pub span_of : Option (ℕ × ℕ) → Option Span
span_of (Some (first, last)) = Some (record { first = first; last = last })
span_of None = None

-- some entry starts at or below `end` or the end of an entry before it
unfoldable pub overlaps_from : ℕ → List Transition → Bool
overlaps_from end [] = false
overlaps_from end (e ∷ es) = leb e.first end || overlaps_from (max end e.last) es

-- some entry starts at or below the largest end before it
unfoldable pub overlapping : List Transition → Bool
overlapping [] = false
overlapping (e ∷ es) = overlaps_from e.last es

-- the ranges of no state overlap
abbrev pub OverlapFree : Automaton → Type 0
OverlapFree A = (q : ℕ) → q < A.size → overlapping (ranges_of (leaving A q)) ≡ false

-- two different entries hold the same symbol: the first and a later one, or two later ones
pub data Shared : List Transition → Type 0 where
  first : {d : Transition} {es : List Transition} (e : Transition) (x : ℕ) → e ∈ es → holds x d ≡ true → holds x e ≡ true → Shared (d ∷ es)
  later : {d : Transition} {es : List Transition} → Shared es → Shared (d ∷ es)
