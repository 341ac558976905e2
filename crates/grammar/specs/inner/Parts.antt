-- For inner contracts. A whole text in three parts: what stands before the transitions, the transitions, and what stands behind them.
use Rattle.std.specs.Prelude.{ℕ, List}
use Rattle.grammar.specs.Grammar.{ReadResult, found, follow, space, heading, initial, transitions, accepting, ending, TextParts}
use Rattle.grammar.specs.declared.tokens.TextSpan.{TextSpan}

-- automaton A { init a;
unfoldable pub opening : List ℕ → ReadResult TextSpan
opening t = follow (heading t 0) λ _ a. initial t (space t a)

-- accepting a, b; };
unfoldable pub closing : List ℕ → ℕ → ReadResult (List TextSpan)
closing t at =
    follow (accepting t (space t at)) λ names c.
    follow (ending t c) λ _ d.
    found names d

-- a whole text whose initial state is s and whose transitions go on from b
unfoldable pub told_from : List ℕ → TextSpan → ℕ → ReadResult TextParts
told_from t s b =
    follow (closing t (transitions t b).behind) λ names d.
    found (record { start = s; arrows = (transitions t b).items; accepts = names }) d
