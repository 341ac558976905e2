-- Which bytes are the text of a pattern, and what it says (document 01, "Beside the equality"). These are rules alone: nothing is read here, so there
-- is no place in a text, no looking ahead and no bound. The rules are document 01's sentences, and each stands under its own.
use Rattle.std.specs.Prelude.{ℕ, ◌≤◌, ◌<◌, Bool, true, List, [], ◌∷◌, ◌++◌, ◌≡◌, length}
use Rattle.decimal.specs.Decimal.{is_digit, value}
use Rattle.grammar.specs.Bytes.{is_space, is_letter, is_name_byte}
use Rattle.grammar.specs.Words.{automaton_word, init_word, accepting_word, arrow_sign, left_brace, right_brace, left_bracket, right_bracket, comma, semicolon}

infixr 66 ◌⨾◌
-- one behind the other, grouped from the right
abbrev pub ◌⨾◌ : List ℕ → List ℕ → List ℕ
u ⨾ v = u ++ v

-- bytes each of which passes a test
pub data Each (f : ℕ → Bool) : List ℕ → Type 0 where
  none : Each f []
  more : {b : ℕ} {u : List ℕ} → f b ≡ true → Each f u → Each f (b ∷ u)

-- optional space
abbrev pub Gap : List ℕ → Type 0
Gap = Each is_space

-- space: blanks, tabs, CR and LF, one or more
pub data Space : List ℕ → Type 0 where
  spaces : {u : List ℕ} → Each is_space u → 0 < length u → Space u

-- a name: an ASCII letter, then letters, digits and `_`; at most 64 bytes
pub data Name : List ℕ → Type 0 where
  named : {b : ℕ} {u : List ℕ} → is_letter b ≡ true → Each is_name_byte u → length u < 64 → Name (b ∷ u)

-- a number and its value: digits, one or more, leading zeros allowed; it fits u32
pub data Number : List ℕ → ℕ → Type 0 where
  digits : {u : List ℕ} → Each is_digit u → 0 < length u → value u ≤ 4294967295 → Number u (value u)

-- a transition as a text says it, by the names of its states
pub record Move : Type 0 where
  pub from : List ℕ
  pub to : List ℕ
  pub first : ℕ
  pub last : ℕ

-- what a text says: the name of the initial state, the transitions and the accepting names, each in the order of the text. The automaton's own
-- name is not kept
pub record Said : Type 0 where
  pub start : List ℕ
  pub moves : List Move
  pub accepts : List (List ℕ)

-- a transition, `a -> b [first, last];`: space is optional before every token but `]` and `;`, before which it never stands; first is at most last.
-- Any name may be that of its states, `accepting` too
pub data TransitionText : List ℕ → Move → Type 0 where
  moves : {a b m n s₁ s₂ s₃ s₄ s₅ s₆ : List ℕ} {first last : ℕ} →
      Name a → Gap s₁ → Gap s₂ → Name b → Gap s₃ → Gap s₄ → Number m first → Gap s₅ → Gap s₆ → Number n last → first ≤ last →
      TransitionText
      (a ⨾ s₁ ⨾ arrow_sign ⨾ s₂ ⨾ b ⨾ s₃ ⨾ left_bracket ⨾ s₄ ⨾ m ⨾ s₅ ⨾ comma ⨾ s₆ ⨾ n ⨾ right_bracket ⨾ semicolon)
      (record { from = a; to = b; first = first; last = last })

-- transitions, any number of them, with optional space before each
pub data TransitionsText : List ℕ → List Move → Type 0 where
  none : TransitionsText [] []
  more : {s u v : List ℕ} {e : Move} {es : List Move} → Gap s → TransitionText u e → TransitionsText v es → TransitionsText (s ⨾ u ⨾ v) (e ∷ es)

-- the accepting names behind the first, any number of them: a comma before each, with optional space before the comma and before the name
pub data MoreNames : List ℕ → List (List ℕ) → Type 0 where
  none : MoreNames [] []
  more : {s₁ s₂ a u : List ℕ} {ns : List (List ℕ)} → Gap s₁ → Gap s₂ → Name a → MoreNames u ns → MoreNames (s₁ ⨾ comma ⨾ s₂ ⨾ a ⨾ u) (a ∷ ns)

-- a text: `automaton` with no space before it, then space, a name, optional space and `{`; then, with optional space before each part, `init`, space,
-- a name and `;`, the transitions, `accepting`, space, names by commas and `;`, and `}` with `;` directly behind it
pub data Text : List ℕ → Said → Type 0 where
  says : {A s₁ s₂ s₃ s₄ a ts s₅ s₆ b bs s₇ : List ℕ} {es : List Move} {ns : List (List ℕ)} →
      Space s₁ → Name A → Gap s₂ → Gap s₃ → Space s₄ → Name a → TransitionsText ts es → Gap s₅ → Space s₆ → Name b → MoreNames bs ns → Gap s₇ →
      Text
      (automaton_word ⨾ s₁ ⨾ A ⨾ s₂ ⨾ left_brace ⨾ s₃ ⨾ init_word ⨾ s₄ ⨾ a ⨾ semicolon ⨾ ts ⨾ s₅ ⨾ accepting_word ⨾ s₆ ⨾ b ⨾ bs ⨾ semicolon ⨾ s₇ ⨾ right_brace ⨾ semicolon)
      (record { start = a; moves = es; accepts = b ∷ ns })

-- t begins with the text u, which says s; the rest is unread
pub record BeginsWith (t u : List ℕ) (s : Said) : Type 0 where
  pub text : Text u s
  pub rest : List ℕ
  pub whole : t ≡ u ++ rest
