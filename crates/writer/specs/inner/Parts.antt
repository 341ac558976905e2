-- For inner contracts. The parts of the text as the code writes them, by the labels alone.
use Rattle.std.specs.Prelude.{ℕ, Bool, not, ◌&&◌, get_or}
use mathlib.Core.List.{List, [], flat_map}
use Rattle.lists.specs.Lists.{all}
use Rattle.automata.specs.Automaton.{Transition}
use Rattle.decimal.specs.Decimal.{digits}
use Rattle.grammar.specs.Words.{automaton_word, init_word, accepting_word, arrow_sign, left_brace, right_brace, left_bracket, right_bracket, comma, semicolon}
use Rattle.syntax.specs.Syntax.{◌⨾◌}
use Rattle.writer.specs.Text.{blank, pattern_name, is_name, has_twice}

-- ` p -> q`
unfoldable pub arrow_text : List (List ℕ) → ℕ → ℕ → List ℕ
arrow_text ls p q = blank ⨾ get_or ls p [] ⨾ blank ⨾ arrow_sign ⨾ blank ⨾ get_or ls q []

-- ` [0, 9];`
unfoldable pub range_text : ℕ → ℕ → List ℕ
range_text x y = blank ⨾ left_bracket ⨾ digits x ⨾ comma ⨾ blank ⨾ digits y ⨾ right_bracket ⨾ semicolon

-- a transition
unfoldable pub spaced_transition : List (List ℕ) → Transition → List ℕ
spaced_transition ls e = arrow_text ls e.from e.to ⨾ range_text e.first e.last

-- one behind the other
unfoldable pub spaced_transitions : List (List ℕ) → List Transition → List ℕ
spaced_transitions ls es = flat_map (spaced_transition ls) es

-- `automaton P { init p;`
unfoldable pub heading_text : List ℕ → List ℕ
heading_text p = automaton_word ⨾ blank ⨾ pattern_name ⨾ blank ⨾ left_brace ⨾ blank ⨾ init_word ⨾ blank ⨾ p ⨾ semicolon

-- ` accepting p, q; };` with the text of the names
unfoldable pub closing_text : List ℕ → List ℕ
closing_text names = blank ⨾ accepting_word ⨾ blank ⨾ names ⨾ semicolon ⨾ blank ⨾ right_brace ⨾ semicolon

-- all are names, and no two are equal
unfoldable pub are_names : List (List ℕ) → Bool
are_names ls = not (has_twice ls) && all is_name ls
