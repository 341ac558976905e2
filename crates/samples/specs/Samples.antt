-- The samples of document 01: sheets, their determinizations, and two of these side by side.
use Rattle.std.specs.Prelude.{ℕ, List, [], ◌∷◌}
use Rattle.automata.specs.Automaton.{Transition, Automaton}
use Rattle.automata.specs.WellFormed.{last_symbol}
use Rattle.determinize.specs.Partition.{Part}
use Rattle.determinizations.specs.Two.{Two}
use Rattle.ranges.specs.Span.{Span}
use Rattle.sets.specs.Sets.{Set}

-- a range from p to q
abbrev pub range_transition : ℕ → ℕ → ℕ → ℕ → Transition
range_transition p a b q = record { from = p; kind = 1; first = a; last = b; to = q }

-- A is `p -> q [0, 9]`, B is `s -> t [0, 4]; s -> u [5, 9]`, C is `p -> q [0, 8]`
abbrev pub A : List ℕ
A = 1 ∷ 0 ∷ 2 ∷ 0 ∷ 1 ∷ 1 ∷ 0 ∷ 1 ∷ 0 ∷ 9 ∷ 1 ∷ []

abbrev pub B : List ℕ
B = 1 ∷ 0 ∷ 3 ∷ 0 ∷ 1 ∷ 1 ∷ 2 ∷ 0 ∷ 1 ∷ 0 ∷ 4 ∷ 1 ∷ 0 ∷ 1 ∷ 5 ∷ 9 ∷ 2 ∷ []

abbrev pub C : List ℕ
C = 1 ∷ 0 ∷ 2 ∷ 0 ∷ 1 ∷ 1 ∷ 0 ∷ 1 ∷ 0 ∷ 8 ∷ 1 ∷ []

-- states 0, 1, 2, (0, 9) from 0 to 1 and to 2, only 1 accepting
abbrev pub O : List ℕ
O = 1 ∷ 0 ∷ 3 ∷ 0 ∷ 1 ∷ 0 ∷ 2 ∷ 0 ∷ 1 ∷ 0 ∷ 9 ∷ 1 ∷ 0 ∷ 1 ∷ 0 ∷ 9 ∷ 2 ∷ []

-- the determinizations of A and B
abbrev pub DA : Automaton
DA = record {
  size = 3;
  start = 0;
  accept = 0 ∷ 1 ∷ 0 ∷ [];
  transitions = range_transition 0 0 9 1 ∷ range_transition 0 10 last_symbol 2 ∷ range_transition 1 0 last_symbol 2 ∷ range_transition 2 0 last_symbol 2 ∷ [];
}

abbrev pub DB : Automaton
DB = record {
  size = 4;
  start = 0;
  accept = 0 ∷ 1 ∷ 1 ∷ 0 ∷ [];
  transitions = range_transition 0 0 4 1 ∷ range_transition 0 5 9 2 ∷ range_transition 0 10 last_symbol 3 ∷ range_transition 1 0 last_symbol 3 ∷ range_transition 2 0 last_symbol 3 ∷ range_transition 3 0 last_symbol 3 ∷ [];
}

-- these two side by side, over all symbols
abbrev pub both_determinized : Two
both_determinized = record { one = DA; two = DB; lower = 0; upper = last_symbol }

-- a span of symbols, and a part with its targets
abbrev pub span : ℕ → ℕ → Span
span a b = record { first = a; last = b }

abbrev pub symbol_part : ℕ → ℕ → Set → Part
symbol_part a b S = record { first = a; last = b; targets = S }
