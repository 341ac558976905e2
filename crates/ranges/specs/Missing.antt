-- The symbols from lower to upper that no range holds (document 01, "Ranges"), as spans: by cuts, by their properties, and by one pass over sorted ranges.
use Rattle.std.specs.Prelude.{ℕ, suc, ◌≤◌, ◌<◌, Bool, false, not, List, ◌↔◌, ◌≡◌}
use Rattle.lists.specs.Lists.{◌∈◌, any, filter, Ascending}
use Rattle.automata.specs.Automaton.{Transition, holds}
use Rattle.ranges.specs.Span.{Span, InSpan}
use Rattle.ranges.specs.Cuts.{cut_all}

-- some range holds the span's first symbol; between cuts it then holds all of them
unfoldable pub covered : List Transition → Span → Bool
covered es s = any (holds s.first) es

-- the spans between cuts that no range holds
unfoldable pub missing : ℕ → ℕ → List Transition → List Span
missing lower upper es = filter (λ s. not (covered es s)) (cut_all lower upper es)

-- no range holds the symbol x
abbrev pub Free : ℕ → List Transition → Type 0
Free x es = (e : Transition) → e ∈ es → holds x e ≡ false

-- the symbol x lies in one of the spans
abbrev pub InSomeSpan : ℕ → List Span → Type 0
InSomeSpan x hs = (s : Span) × s ∈ hs × InSpan x s

-- a symbol stands between s and t
abbrev pub SpansApart : Span → Span → Type 0
SpansApart s t = suc s.last < t.first

-- the maximal runs of symbols that no range holds, ascending: since the spans are apart and hold every such symbol, none can be longer
pub record Holes (lower upper : ℕ) (es : List Transition) (hs : List Span) : Type 0 where
  pub ascends : Ascending SpansApart hs
  pub full : (s : Span) → s ∈ hs → s.first ≤ s.last
  pub exact : (x : ℕ) → InSomeSpan x hs ↔ ((lower ≤ x) × (x ≤ upper) × Free x es)

-- sorted by first, and none empty
pub record SortedRanges (es : List Transition) : Type 0 where
  pub rises : Ascending (λ d e. d.first ≤ e.first) es
  pub full : (e : Transition) → e ∈ es → e.first ≤ e.last
