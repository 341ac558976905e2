-- For inner contracts. What a text means by the places of its parts, which is how the code has them. The names of the states are given by its table.
use Rattle.std.specs.Prelude.{ℕ, List, map}
use Rattle.automata.specs.Automaton.{Transition}
use Rattle.automata.specs.Ordered.{in_order}
use Rattle.grammar.specs.Grammar.{transitions}
use Rattle.grammar.specs.Places.{told_at}
use Rattle.grammar.specs.declared.text.Layout.{Layout}
use Rattle.output.specs.Output.{Pattern}
use Rattle.syntax.specs.Syntax.{Move, Said}
use Rattle.syntax.specs.Spelled.{spell_move, spell}
use Rattle.parser.specs.Pattern.{transition_of_move, automaton_of}

-- what the text says by a layout
abbrev pub said_at : List ℕ → Layout → Said
said_at t l = spell t (told_at t l)

-- the transitions from a place on
abbrev pub moves_at : List ℕ → ℕ → List Move
moves_at t at = map (spell_move t) (transitions t at).items

-- the same in order, between states with these names
abbrev pub transitions_at : List ℕ → Layout → List (List ℕ) → List Transition
transitions_at t l ls = in_order (map (transition_of_move ls) (moves_at t l.arrows.at))

-- the pattern whose states have these names
abbrev pub pattern_at : List ℕ → Layout → List (List ℕ) → Pattern
pattern_at t l ls = record { automaton = automaton_of (said_at t l) ls; labels = ls }
