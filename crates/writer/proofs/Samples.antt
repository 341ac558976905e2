-- The definitions evaluated: texts A and B of document 01, named P, B beside a state that no record names; 30, 31 and 32.
use Prim.Native.Nat.{ℕ}
use mathlib.Core.List.{List, [], ◌∷◌, flat_map}
use mathlib.Core.Path.{◌≡◌, refl}
use lib.ListN.{set}
use Rattle.lists.specs.Lists.{any, all, filter, tabulate}
use Rattle.automata.specs.Automaton.{Transition, states, has_epsilon}
use Rattle.automata.specs.Records.{read_records}
use Rattle.decimal.specs.Decimal.{digits, last_digits, is_digit}
use Rattle.grammar.specs.Bytes.{is_letter, is_name_byte}
use Rattle.labels.specs.Labels.{same_label, read_labels, read_entries}
use Rattle.output.specs.Output.{Pattern, read_pattern}
use Rattle.refusal.specs.Answer.{refused, given}
use Rattle.syntax.specs.Examples.{text_a, text_b}
use Rattle.writer.specs.Text.{is_written, written_states, accepting_states, transition_text, more_names_text, names_text, pattern_text, is_name, has_twice}
use Rattle.writer.specs.Text.{epsilon_first, accepting_first, names_first, pattern_answer}

-- the sheet of A and its labels p and q: text A with the name P
pub sample_a : pattern_answer (read_pattern (1 ∷ 0 ∷ 2 ∷ 0 ∷ 1 ∷ 1 ∷ 0 ∷ 1 ∷ 0 ∷ 9 ∷ 1 ∷ []) (2 ∷ 0 ∷ 1 ∷ 112 ∷ 1 ∷ 113 ∷ [])) ≡ given (set text_a 10 80)
unfolding pattern_answer epsilon_first accepting_first names_first pattern_text names_text more_names_text transition_text accepting_states written_states is_written is_name has_twice
    states tabulate any all filter has_epsilon same_label digits last_digits is_letter is_name_byte is_digit flat_map read_records read_labels read_entries
sample_a = refl

-- a pattern of four states from these accept words, records and labels, which starts in state 0
abbrev four : List ℕ → List Transition → List (List ℕ) → Pattern
four accept es labels = record { automaton = record { size = 4; start = 0; accept = accept; transitions = es }; labels = labels }

-- the records of text B, which name no state but the first three
abbrev records : List Transition
records = record { from = 0; kind = 1; first = 0; last = 4; to = 1 } ∷ record { from = 0; kind = 1; first = 5; last = 9; to = 2 } ∷ []

-- its labels, and one that is no name for the fourth state
abbrev labels : List (List ℕ)
labels = (115 ∷ []) ∷ (116 ∷ []) ∷ (117 ∷ []) ∷ (49 ∷ []) ∷ []

-- text B with the name P; the fourth state accepts and is not written
pub sample_b : pattern_answer (four (0 ∷ 1 ∷ 1 ∷ 1 ∷ []) records labels) ≡ given (set text_b 10 80)
unfolding pattern_answer epsilon_first accepting_first names_first pattern_text names_text more_names_text transition_text accepting_states written_states is_written is_name has_twice
    states tabulate any all filter has_epsilon same_label digits last_digits is_letter is_name_byte is_digit flat_map
sample_b = refl

-- the second record is an epsilon
pub sample_30 : pattern_answer (four (0 ∷ 0 ∷ 0 ∷ 0 ∷ [])
    (record { from = 0; kind = 1; first = 0; last = 4; to = 1 } ∷ record { from = 1; kind = 0; first = 0; last = 0; to = 2 } ∷ []) labels) ≡ refused 30
unfolding pattern_answer epsilon_first any has_epsilon
sample_30 = refl

-- only the state that no record names accepts
pub sample_31 : pattern_answer (four (0 ∷ 0 ∷ 0 ∷ 1 ∷ []) records labels) ≡ refused 31
unfolding pattern_answer epsilon_first accepting_first accepting_states written_states is_written states tabulate any filter has_epsilon
sample_31 = refl

-- the start and another written state are both `t`
pub sample_32_equal : pattern_answer (four (0 ∷ 1 ∷ 1 ∷ 1 ∷ []) records ((116 ∷ []) ∷ (116 ∷ []) ∷ (117 ∷ []) ∷ (118 ∷ []) ∷ [])) ≡ refused 32
unfolding pattern_answer epsilon_first accepting_first names_first accepting_states written_states is_written has_twice states tabulate any filter has_epsilon same_label
sample_32_equal = refl

-- a written state is `1`
pub sample_32_name : pattern_answer (four (0 ∷ 1 ∷ 1 ∷ 1 ∷ []) records ((115 ∷ []) ∷ (49 ∷ []) ∷ (117 ∷ []) ∷ (118 ∷ []) ∷ [])) ≡ refused 32
unfolding pattern_answer epsilon_first accepting_first names_first accepting_states written_states is_written is_name has_twice states tabulate any all filter has_epsilon same_label is_letter is_name_byte is_digit
sample_32_name = refl
