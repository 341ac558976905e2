-- The text of a sheet with its labels (document 02, M-100), in document 01's grammar, spaced as its texts A and B are.
use Rattle.std.specs.Prelude.{ℕ, Bool, false, cond, not, ◌&&◌, ◌||◌, eqb, ltb, length}
use mathlib.Core.List.{List, [], ◌∷◌, map, flat_map}
use Rattle.std.proofs.lemmas.List.Edits.{sets}
use Rattle.lists.specs.Lists.{any, all, filter}
use Rattle.automata.specs.Automaton.{Transition, Automaton, accept_of, states, has_epsilon}
use Rattle.decimal.specs.Decimal.{digits}
use Rattle.grammar.specs.Bytes.{is_letter, is_name_byte}
use Rattle.grammar.specs.Words.{automaton_word, init_word, accepting_word, arrow_sign, left_brace, right_brace, left_bracket, right_bracket, comma, semicolon}
use Rattle.labels.specs.Labels.{same_label}
use Rattle.output.specs.Output.{Pattern, label_of, read_pattern, labels_first}
use Rattle.refusal.specs.Answer.{Answer, refused, given}
use Rattle.refusal.specs.Outcome.{Outcome, outcome, length_first}
use Rattle.sheets.specs.Checked.{sheet_first}
use Rattle.sheets.specs.Sheet.{state_count}
use Rattle.syntax.specs.Syntax.{◌⨾◌}

-- a state is written if it is the start or a record names it
unfoldable pub is_written : Automaton → ℕ → Bool
is_written A q = eqb q A.start || any (λ e. eqb e.from q || eqb e.to q) A.transitions

unfoldable pub written_states : Automaton → List ℕ
written_states A = filter (is_written A) (states A.size)

-- the written states that accept, in state order
unfoldable pub accepting_states : Automaton → List ℕ
accepting_states A = filter (λ q. ltb 0 (accept_of A q)) (written_states A)

abbrev pub blank : List ℕ
blank = 32 ∷ []

-- `p -> q [0, 9];`
unfoldable pub transition_text : Pattern → Transition → List ℕ
transition_text P e =
    label_of P e.from ⨾ blank ⨾ arrow_sign ⨾ blank ⨾ label_of P e.to ⨾ blank ⨾ left_bracket ⨾ digits e.first ⨾ comma ⨾ blank
    ⨾ digits e.last ⨾ right_bracket ⨾ semicolon

-- `, p` for each of the names
unfoldable pub more_names_text : List (List ℕ) → List ℕ
more_names_text ns = flat_map (λ a. comma ⨾ blank ⨾ a) ns

-- `p, q`
unfoldable pub names_text : List (List ℕ) → List ℕ
names_text [] = []
names_text (a ∷ ns) = a ⨾ more_names_text ns

-- the name of the automaton, P
abbrev pub pattern_name : List ℕ
pattern_name = 80 ∷ []

-- the whole text
unfoldable pub pattern_text : Pattern → List ℕ
pattern_text P =
    automaton_word ⨾ blank ⨾ pattern_name ⨾ blank ⨾ left_brace ⨾ blank ⨾ init_word ⨾ blank ⨾ label_of P P.automaton.start ⨾ semicolon
    ⨾ flat_map (λ e. blank ⨾ transition_text P e) P.automaton.transitions
    ⨾ blank ⨾ accepting_word ⨾ blank ⨾ names_text (map (label_of P) (accepting_states P.automaton)) ⨾ semicolon ⨾ blank ⨾ right_brace ⨾ semicolon

-- a name of the grammar: a letter, then letters, digits and `_`; at most 64 bytes
unfoldable pub is_name : List ℕ → Bool
is_name [] = false
is_name (b ∷ u) = is_letter b && (all is_name_byte u && ltb (length u) 64)

-- two of the labels are equal
unfoldable pub has_twice : List (List ℕ) → Bool
has_twice [] = false
has_twice (l ∷ ls) = any (same_label l) ls || has_twice ls

-- the size of the buffer, and the longest text in a longer one too
abbrev pub text_size : ℕ
text_size = 65536

-- 30 where a record is an epsilon
unfoldable pub epsilon_first : {X : Type 0} → Automaton → Answer X → Answer X
epsilon_first A a = cond (has_epsilon A.transitions) (refused 30) a

-- 31 where no written state accepts
unfoldable pub accepting_first : {X : Type 0} → Automaton → Answer X → Answer X
accepting_first A a = cond (eqb (length (accepting_states A)) 0) (refused 31) a

-- 32 where two written labels are equal, one is no name, or the text is too long
unfoldable pub names_first : {X : Type 0} → Pattern → Answer X → Answer X
names_first P a =
    let ls = map (label_of P) (written_states P.automaton) in
    cond (has_twice ls || (not (all is_name ls) || ltb text_size (length (pattern_text P)))) (refused 32) a

unfoldable pub pattern_answer : Pattern → Answer (List ℕ)
pattern_answer P = epsilon_first P.automaton (accepting_first P.automaton (names_first P (given (pattern_text P))))

-- of the sheet s with the labels b, where o is lent for the text
unfoldable pub write_answer : List ℕ → List ℕ → List ℕ → Answer (List ℕ)
write_answer s b o = length_first text_size o (sheet_first s (labels_first (state_count s) b (pattern_answer (read_pattern s b))))

-- the text stands at the front of the buffer, and the answer is its length
unfoldable pub write_outcome : List ℕ → Answer (List ℕ) → Outcome ℕ (List ℕ)
write_outcome o a = outcome length (λ m t. sets m 0 t) o a
