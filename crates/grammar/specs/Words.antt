-- The words and the signs of the grammar, as bytes.
use Rattle.std.specs.Prelude.{ℕ, List, [], ◌∷◌}

-- `automaton`
abbrev pub automaton_word : List ℕ
automaton_word = 97 ∷ 117 ∷ 116 ∷ 111 ∷ 109 ∷ 97 ∷ 116 ∷ 111 ∷ 110 ∷ []

-- `init`
abbrev pub init_word : List ℕ
init_word = 105 ∷ 110 ∷ 105 ∷ 116 ∷ []

-- `accepting`
abbrev pub accepting_word : List ℕ
accepting_word = 97 ∷ 99 ∷ 99 ∷ 101 ∷ 112 ∷ 116 ∷ 105 ∷ 110 ∷ 103 ∷ []

-- `->`
abbrev pub arrow_sign : List ℕ
arrow_sign = 45 ∷ 62 ∷ []

-- `{`
abbrev pub left_brace : List ℕ
left_brace = 123 ∷ []

-- `}`
abbrev pub right_brace : List ℕ
right_brace = 125 ∷ []

-- `[`
abbrev pub left_bracket : List ℕ
left_bracket = 91 ∷ []

-- `]`
abbrev pub right_bracket : List ℕ
right_bracket = 93 ∷ []

-- `,`
abbrev pub comma : List ℕ
comma = 44 ∷ []

-- `;`
abbrev pub semicolon : List ℕ
semicolon = 59 ∷ []
