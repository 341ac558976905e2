-- What document 01 asks of an automaton: words in bounds, and transitions strictly ascending by their five words.
use Rattle.std.specs.Prelude.{ℕ, ◌≤◌, ◌<◌, List, ◌∷◌, ◌≡◌, length}
use Rattle.lists.specs.Lists.{◌∈◌, Ascending}
use Rattle.automata.specs.Automaton.{Transition, Automaton, InBounds, accept_of}
use Rattle.automata.specs.Records.{words_of}

-- the limits of a sheet, and the greatest accept word and symbol
abbrev pub most_states : ℕ
most_states = 256

abbrev pub most_transitions : ℕ
most_transitions = 2048

abbrev pub greatest_accept : ℕ
greatest_accept = 1

abbrev pub last_symbol : ℕ
last_symbol = 4294967295

-- the lexicographic order, on lists of equal length
pub data Lex : List ℕ → List ℕ → Type 0 where
  here : {a b : ℕ} {v w : List ℕ} → a < b → Lex (a ∷ v) (b ∷ w)
  later : {a b : ℕ} {v w : List ℕ} → a ≡ b → Lex v w → Lex (a ∷ v) (b ∷ w)

abbrev pub Before : Transition → Transition → Type 0
Before d e = Lex (words_of d) (words_of e)

-- a transition is an epsilon without symbols, or a range that is not empty
pub record Sound (e : Transition) : Type 0 where
  pub known : e.kind ≤ 1
  pub full : e.first ≤ e.last
  pub blank : e.kind ≡ 0 → (e.first ≡ 0) × (e.last ≡ 0)

pub record WellFormed (A : Automaton) : Type 0 where
  pub states : InBounds A
  pub accepts : length A.accept ≡ A.size
  pub accept_words_lem : (q : ℕ) → accept_of A q ≤ greatest_accept
  pub sound : (e : Transition) → e ∈ A.transitions → Sound e
  pub ascends : Ascending Before A.transitions

-- an automaton that fits a sheet
pub record Fits (A : Automaton) : Type 0 where
  pub few_states : A.size ≤ most_states
  pub few_transitions_lem : length A.transitions ≤ most_transitions
