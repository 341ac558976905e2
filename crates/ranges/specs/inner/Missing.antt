-- For inner contracts. What the code of `missing_ranges` writes.
use Rattle.std.specs.Prelude.{ℕ, suc, ◌-◌, min, max, cond, List, [], ◌∷◌, ◌++◌, ltb}
use Rattle.automata.specs.Automaton.{Transition}
use Rattle.ranges.specs.Span.{Span}

-- the span from a up to and without b, if it has a symbol
unfoldable pub gap : ℕ → ℕ → List Span
gap a b = cond (ltb a b) (record { first = a; last = b - 1 } ∷ []) []

-- one pass over sorted ranges: c is the first symbol that is not decided
unfoldable pub scan : ℕ → ℕ → List Transition → List Span
scan c upper [] = gap c (suc upper)
scan c upper (e ∷ es) = gap c (min e.first (suc upper)) ++ scan (max c (suc e.last)) upper es

-- first and last of each span, in order
unfoldable pub span_words : List Span → List ℕ
span_words [] = []
span_words (s ∷ hs) = s.first ∷ s.last ∷ span_words hs
