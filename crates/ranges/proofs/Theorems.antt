-- What is proved of ranges:
--   intersect_exact: a symbol lies in two ranges exactly when it lies in what they share
--   overlap_shared: sorted ranges overlap exactly when two different ones hold the same symbol
--   missing_holes: the spans that `missing` gives are the maximal runs of symbols that no range holds, ascending
--   holes_unique: there is only one list of such runs
use Prim.Native.Nat.{ℕ, ◌≤◌}
use mathlib.Core.Bool.{true}
use mathlib.Core.List.{List}
use mathlib.Core.Logic.{◌↔◌}
use mathlib.Core.Path.{◌≡◌}
use Rattle.lists.specs.Lists.{◌∈◌}
use Rattle.automata.specs.Automaton.{Transition}
use Rattle.ranges.specs.Span.{Span, InSpan, InOptionalSpan, intersect_ranges, overlapping, Shared}
use Rattle.ranges.specs.Missing.{missing, Holes, SortedRanges}
use Rattle.ranges.proofs.Missing
use Rattle.ranges.proofs.Overlap
use Rattle.ranges.proofs.Separate

-- a symbol lies in two ranges exactly when it lies in what they share
pub intersect_exact : (s t : Span) (x : ℕ) → (InSpan x s × InSpan x t) ↔ InOptionalSpan x (intersect_ranges s t)
intersect_exact = Overlap.intersect_exact

-- sorted ranges overlap exactly when two different ones hold the same symbol
pub overlap_shared : (es : List Transition) → SortedRanges es → (overlapping es ≡ true) ↔ Shared es
overlap_shared = Overlap.overlap_shared

-- the spans that `missing` gives are the maximal runs of symbols from lower to upper that no range holds, ascending
pub missing_holes : (lower upper : ℕ) (es : List Transition) → ((e : Transition) → e ∈ es → e.first ≤ e.last) → Holes lower upper es (missing lower upper es)
missing_holes = Missing.missing_holes

-- two lists of these runs are the same
pub holes_unique : (lower upper : ℕ) (es : List Transition) (hs ks : List Span) → Holes lower upper es hs → Holes lower upper es ks → hs ≡ ks
holes_unique = Separate.holes_unique
