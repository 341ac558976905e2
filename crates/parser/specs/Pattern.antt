-- What a text means, by what it says (document 01, "Beside the equality"; document 02, M-101): states number by appearance, the initial one first; a
-- repeated transition counts once; an accepting name that is no state is refused. The automaton's own name is not kept.
use Rattle.std.specs.Prelude.{ℕ, Bool, cond, length}
use mathlib.Core.List.{List, [], ◌∷◌, map, flat_map}
use Rattle.automata.specs.Automaton.{Transition, Automaton}
use Rattle.automata.specs.Ordered.{in_order}
use Rattle.grammar.specs.Grammar.{ReadResult, nothing, found, TextParts, whole_text}
use Rattle.labels.specs.Labels.{same_label}
use Rattle.lists.specs.Lists.{any, all}
use Rattle.output.specs.Output.{Pattern, room_first, states_first, transitions_first}
use Rattle.refusal.specs.Answer.{Answer, refused, given}
use Rattle.search.specs.Search.{index, meet}
use Rattle.syntax.specs.Syntax.{Move, Said}
use Rattle.syntax.specs.Spelled.{spell}

-- the names of the two states of a transition
abbrev pub both_names : Move → List (List ℕ)
both_names m = m.from ∷ m.to ∷ []

-- the names that stand in transitions, in order of appearance
unfoldable pub names_of : List Move → List (List ℕ)
names_of ms = flat_map both_names ms

-- the names of the states, each once and in order of appearance, that of the initial one first
unfoldable pub states_of : Said → List (List ℕ)
states_of s = meet same_label (names_of s.moves) (s.start ∷ [])

-- a transition between the numbers of its states
abbrev pub transition_of_move : List (List ℕ) → Move → Transition
transition_of_move ls m = record { from = index same_label m.from ls; kind = 1; first = m.first; last = m.last; to = index same_label m.to ls }

-- 1 where l is one of the accepting names
unfoldable pub accept_word : List (List ℕ) → List ℕ → ℕ
accept_word accepts l = cond (any (same_label l) accepts) 1 0

-- the automaton with these names for its states
unfoldable pub automaton_of : Said → List (List ℕ) → Automaton
automaton_of s ls = record {
  size = length ls;
  start = 0;
  accept = map (accept_word s.accepts) ls;
  transitions = in_order (map (transition_of_move ls) s.moves);
}

-- the automaton that a text means, with the names of its states for labels
unfoldable pub pattern_of : Said → Pattern
pattern_of s = record { automaton = automaton_of s (states_of s); labels = states_of s }

-- a pattern, and how many bytes of the text were read
pub record Reading : Type 0 where
  pub pattern : Pattern
  pub read : ℕ

-- 22 where the automaton has over 2,048 transitions
unfoldable pub few_transitions : Pattern → ℕ → Answer Reading
few_transitions P n = transitions_first P.automaton (given (record { pattern = P; read = n }))

-- 21 where the text of n bytes that says s has over 256 states, then 22, or else the pattern; accepting names that are no states count for nothing
unfoldable pub within_limits : Said → ℕ → Answer Reading
within_limits s n = states_first (pattern_of s).automaton (few_transitions (pattern_of s) n)

-- l is one of the names ls
abbrev pub is_among : List (List ℕ) → List ℕ → Bool
is_among ls l = any (same_label l) ls

-- 33 where one of the accepting names is no state, by the names ls of the states
unfoldable pub accepts_first : {X : Type 0} → List (List ℕ) → List (List ℕ) → Answer X → Answer X
accepts_first accepts ls a = cond (all (is_among ls) accepts) a (refused 33)

-- what a text of n bytes means that says s: 33, then 21 and 22, or else the pattern
unfoldable pub meant : Said → ℕ → Answer Reading
meant s n = accepts_first s.accepts (states_of s) (within_limits s n)

-- 8 where no text is found, or else the answer for its parts and its length
abbrev pub text_first : {X : Type 0} → ReadResult TextParts → (TextParts → ℕ → Answer X) → Answer X
text_first nothing a = refused 8
text_first (found g n) a = a g n

-- what the text that is found in t means
abbrev pub meaning : List ℕ → ReadResult TextParts → Answer Reading
meaning t f = text_first f (λ g n. meant (spell t g) n)

-- the pattern at the front of a text
unfoldable pub reading_answer : List ℕ → Answer Reading
reading_answer t = meaning t (whole_text t)

-- the same into the outputs o and l: 20, then 8, 33, 21 and 22
unfoldable pub parse_answer : List ℕ → List ℕ → List ℕ → Answer Reading
parse_answer t o l = room_first o l (reading_answer t)
