-- The program `verdict` on the texts of A, B and C: its contract allows the line of document 01 and no other.
use Prim.Native.Nat.{ℕ}
use mathlib.Core.List.{List, [], ◌∷◌, ◌++◌, flat_map}
use mathlib.Core.Path.{◌≡◌, ap, subst}
use native.Mathlib.Omega.{arith}
use Rattle.lists.specs.Lists.{any, all}
use Rattle.automata.specs.Ordered.{insert, in_order}
use Rattle.automata.specs.Records.{read_records}
use Rattle.automata.specs.WellFormed.{WellFormed, last_symbol}
use Rattle.automata.proofs.SameWords.{not_same}
use Rattle.decimal.specs.Decimal.{is_digit, value_after}
use Rattle.determinizations.specs.Two.{Two}
use Rattle.determinizations.proofs.Theorems.{determinized_both, same_words, one_word}
use Rattle.equality.specs.Verdict.{Equal, Apart}
use Rattle.equality.proofs.Theorems.{classes_number}
use Rattle.labels.specs.Labels.{same_label}
use Rattle.grammar.specs.Bytes.{is_space, is_letter, is_name_byte}
use Rattle.grammar.specs.Grammar.{follow, run, space, needed_space, begins, token, name, number, ends, range}
use Rattle.grammar.specs.Grammar.{target, transition, initial, next_name, many, transitions, next_names, accepting, heading, ending, whole_text}
use Rattle.parser.specs.Pattern.{names_of, states_of, accept_word, automaton_of, pattern_of, few_transitions, within_limits, accepts_first, meant, reading_answer}
use Rattle.syntax.specs.Examples.{text_a, text_b, text_c}
use Rattle.syntax.specs.Spelled.{spell}
use Rattle.refusal.specs.Answer.{Answer, given}
use Rattle.search.specs.Search.{index, add, meet}
use Rattle.sheets.specs.Sheet.{read}
use Rattle.sheets.proofs.Accepted.{accepted}
use Rattle.sheets.proofs.Meaning.{read_well}
use Rattle.verdict_line.specs.Texts.{two_texts, with_second_text, with_first_text, verdict_answer}
use Rattle.verdict_line.specs.Line.{VerdictLine, refuses, same, differs, same_line, differ_line}
use Rattle.samples.proofs.Allowed.{allowed_same_4, allowed_differ_9}
use Rattle.samples.proofs.Patterns.{determinized, no_fault, DC}
use Rattle.samples.specs.Samples.{A, B, C, DA, DB, both_determinized}
use Rattle.samples.proofs.Three.{three, well_a, well_b}
use Rattle.samples.proofs.Verdicts.{same_ab, differ_ac, only_nine}
use Rattle.output.specs.Output.{states_first, transitions_first}

abbrev apart : Two
apart = record { one = DA; two = DC; lower = 0; upper = last_symbol }

-- the texts are read as A, B and C
are_compared :
    (verdict_answer 0 last_symbol (text_a ++ 32 ∷ text_b) ≡ given both_determinized)
    × (verdict_answer 0 last_symbol (text_a ++ 32 ∷ text_c) ≡ given apart)
unfolding follow is_space is_letter is_digit is_name_byte run space needed_space begins token name value_after number ends range target transition initial
    next_name many transitions next_names accepting heading ending whole_text spell same_label index add meet flat_map names_of states_of any accept_word automaton_of
    pattern_of all few_transitions within_limits accepts_first meant states_first transitions_first reading_answer insert in_order read_records two_texts with_second_text with_first_text
    verdict_answer
are_compared = (
  determinized_both 0 last_symbol (read A) (read B) DA DB determinized.0 determinized.1,
  determinized_both 0 last_symbol (read A) (read C) DA DC determinized.0 determinized.2,
)

well_c : WellFormed (read C)
well_c = read_well C (accepted C no_fault.2)

-- document 01's lines are allowed
pub may_print_same_4 : VerdictLine (verdict_answer 0 last_symbol (text_a ++ 32 ∷ text_b)) (same_line 4)
may_print_same_4 = allowed_same_4 _ are_compared.0

pub may_print_differ_9 : VerdictLine (verdict_answer 0 last_symbol (text_a ++ 32 ∷ text_c)) (differ_line (9 ∷ []))
may_print_differ_9 = allowed_differ_9 _ are_compared.1

-- and no others

by_both : (x : Answer Two) (bytes : List ℕ) → x ≡ given both_determinized → VerdictLine x bytes → bytes ≡ same_line 4
by_both x bytes e (refuses n) = absurd (let z : ◌≡◌ {A = ℕ} 0 1 = cc in omega arith)
by_both x bytes e (same t joins h) =
    let z : t ≡ both_determinized = cc in
    let q = subst (λ (u : Two). Equal u joins) z h in
    let three-classes : q.number ≡ 3 = classes_number both_determinized q.number 3 q.counted three in
    let sum = q.joined in
    let four : joins ≡ 4 = omega arith in
    ap same_line four
by_both x bytes e (differs t w h) =
    let z : t ≡ both_determinized = cc in
    let q = subst (λ (u : Two). Apart u w) z h in
    let one = one_word 0 last_symbol (read A) (read B) well_a well_b DA DB determinized.0 determinized.1 w q.word q.differ in
    absurd (not_same 0 last_symbol (read A) (read B) w one q.word same_ab)

by_apart : (x : Answer Two) (bytes : List ℕ) → x ≡ given apart → VerdictLine x bytes → bytes ≡ differ_line (9 ∷ [])
by_apart x bytes e (refuses n) = absurd (let z : ◌≡◌ {A = ℕ} 0 1 = cc in omega arith)
by_apart x bytes e (same t joins h) =
    let z : t ≡ apart = cc in
    let q = subst (λ (u : Two). Equal u joins) z h in
    absurd (differ_ac (same_words 0 last_symbol (read A) (read C) well_a well_c DA DC determinized.0 determinized.2 q.words))
by_apart x bytes e (differs t w h) =
    let z : t ≡ apart = cc in
    let q = subst (λ (u : Two). Apart u w) z h in
    ap differ_line (only_nine w (one_word 0 last_symbol (read A) (read C) well_a well_c DA DC determinized.0 determinized.2 w q.word q.differ))

pub prints_same_4 : (bytes : List ℕ) → VerdictLine (verdict_answer 0 last_symbol (text_a ++ 32 ∷ text_b)) bytes → bytes ≡ same_line 4
prints_same_4 bytes = by_both _ bytes are_compared.0

pub prints_differ_9 : (bytes : List ℕ) → VerdictLine (verdict_answer 0 last_symbol (text_a ++ 32 ∷ text_c)) bytes → bytes ≡ differ_line (9 ∷ [])
prints_differ_9 bytes = by_apart _ bytes are_compared.1
