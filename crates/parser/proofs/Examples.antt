-- Texts and what they mean, computed.
use Prim.Native.Nat.{ℕ}
use mathlib.Core.List.{List, [], ◌∷◌, ◌++◌, flat_map}
use mathlib.Core.Path.{◌≡◌, refl}
use lib.ListN.{set}
use Rattle.automata.specs.Ordered.{insert, in_order}
use Rattle.automata.specs.Records.{write_records}
use Rattle.decimal.specs.Decimal.{is_digit, value_after}
use Rattle.grammar.proofs.Examples.{begin, init_p, arrow, accepting_q, end, loose, end_space, accepting_long}
use Rattle.grammar.specs.Bytes.{is_space, is_letter, is_name_byte}
use Rattle.grammar.specs.Grammar.{follow, run, space, needed_space, begins, token, name, number, ends, range}
use Rattle.grammar.specs.Grammar.{target, transition, initial, next_name, many, transitions, next_names, accepting, heading, ending, whole_text}
use Rattle.labels.specs.Labels.{same_label}
use Rattle.lists.specs.Lists.{any, all}
use Rattle.refusal.specs.Answer.{Answer, refused, given}
use Rattle.search.specs.Search.{index, add, meet}
use Rattle.sheets.specs.Sheet.{write}
use Rattle.parser.specs.Pattern.{names_of, states_of, accept_word, automaton_of, pattern_of, Reading, few_transitions, within_limits, accepts_first, meant, reading_answer}
use Rattle.syntax.specs.Spelled.{spell}
use Rattle.output.specs.Output.{states_first, transitions_first}

-- a refusal's number; or the bytes read, the sheet and the labels
data Outcome : Type 0 where
  refusal : ℕ → Outcome
  output : ℕ → List ℕ → List (List ℕ) → Outcome

abbrev outcome : Answer Reading → Outcome
outcome (refused n) = refusal n
outcome (given r) = output r.read (write r.pattern.automaton) r.pattern.labels

-- A, with a rest that is not read; leading zeros, states called `accepting`, transitions sorted (`loose` with the name `t` for `zz`)
read_examples :
    (outcome (reading_answer (begin ++ init_p ++ arrow ++ accepting_q ++ end ++ arrow)) ≡ output 52 (1 ∷ 0 ∷ 2 ∷ 0 ∷ 1 ∷ 1 ∷ 0 ∷ 1 ∷ 0 ∷ 9 ∷ 1 ∷ []) ((112 ∷ []) ∷ (113 ∷ []) ∷ []))
    × (outcome (reading_answer (set (set loose 117 32) 118 116))
    ≡ output 124 (1 ∷ 0 ∷ 2 ∷ 0 ∷ 1 ∷ 3 ∷ 0 ∷ 1 ∷ 0 ∷ 9 ∷ 0 ∷ 0 ∷ 1 ∷ 7 ∷ 4294967295 ∷ 1 ∷ 1 ∷ 1 ∷ 1 ∷ 1 ∷ 1 ∷ [])
    ((97 ∷ 99 ∷ 99 ∷ 101 ∷ 112 ∷ 116 ∷ 105 ∷ 110 ∷ 103 ∷ []) ∷ (116 ∷ []) ∷ []))
unfolding follow is_space is_letter is_digit is_name_byte run space needed_space begins token name value_after number ends range target transition initial
    next_name many transitions next_names accepting heading ending whole_text spell same_label index add meet flat_map names_of states_of any accept_word automaton_of
    pattern_of all few_transitions within_limits accepts_first meant states_first transitions_first reading_answer insert in_order write_records
read_examples = (refl, refl)

-- a name in the middle of the accepting names, and the only one, of 64 bytes, are no states
misspelt_examples : (outcome (reading_answer loose) ≡ refusal 33) × (outcome (reading_answer (begin ++ init_p ++ accepting_long 64 ++ end)) ≡ refusal 33)
unfolding follow is_space is_letter is_digit is_name_byte run space needed_space begins token name value_after number ends range target transition initial
    next_name many transitions next_names accepting heading ending whole_text spell same_label index add meet flat_map names_of states_of any accept_word automaton_of
    pattern_of all few_transitions within_limits accepts_first meant states_first transitions_first reading_answer insert in_order write_records
misspelt_examples = (refl, refl)

-- a text outside the grammar
outside_example : outcome (reading_answer (begin ++ init_p ++ arrow ++ accepting_q ++ end_space)) ≡ refusal 8
unfolding follow is_space is_letter is_digit is_name_byte run space needed_space begins token name value_after number ends range target transition initial
    next_name many transitions next_names accepting heading ending whole_text spell same_label index add meet flat_map names_of states_of any accept_word automaton_of
    pattern_of all few_transitions within_limits accepts_first meant states_first transitions_first reading_answer insert in_order write_records
outside_example = refl
