-- The two texts of an input (document 01, program `verdict`) and what is compared: the determinizations of their automata, or the refusal.
use Rattle.std.specs.Prelude.{ℕ, ◌+◌, cond, List, ltb, length, drop}
use Rattle.automata.specs.Automaton.{Automaton}
use Rattle.grammar.specs.Grammar.{ReadResult, nothing, found, follow, Mark, mark, space, whole_text}
use Rattle.refusal.specs.Answer.{Answer, refused, given}
use Rattle.parser.specs.Pattern.{Reading, reading_answer}
use Rattle.determinizations.specs.Two.{Two}
use Rattle.determinizations.specs.Determinizations.{determinized}

-- two texts of the grammar with optional space between and after: the place where the second begins
unfoldable pub two_texts : List ℕ → ReadResult Mark
two_texts t =
    follow (whole_text t) λ _ a.
    follow (whole_text (drop (space t a) t)) λ _ b.
    cond (ltb (space t (space t a + b)) (length t)) nothing (found mark (space t a))

-- the determinizations of both automata; the first text's refusal comes before the second's, and these before those of determinizing
unfoldable pub with_second_text : ℕ → ℕ → Automaton → Answer Reading → Answer Two
with_second_text lower upper A (refused n) = refused n
with_second_text lower upper A (given r) = determinized lower upper A r.pattern.automaton

unfoldable pub with_first_text : ℕ → ℕ → Answer Reading → Answer Reading → Answer Two
with_first_text lower upper (refused n) second = refused n
with_first_text lower upper (given r) second = with_second_text lower upper r.pattern.automaton second

-- 8 where the input is not two texts
abbrev pub on_texts : ℕ → ℕ → List ℕ → ReadResult Mark → Answer Two
on_texts lower upper t nothing = refused 8
on_texts lower upper t (found _ at) = with_first_text lower upper (reading_answer t) (reading_answer (drop at t))

-- the greatest length of an input
abbrev pub input_size : ℕ
input_size = 65536

-- what is compared, over the symbols from lower to upper; a longer input counts as 8
unfoldable pub verdict_answer : ℕ → ℕ → List ℕ → Answer Two
verdict_answer lower upper t = cond (ltb input_size (length t)) (refused 8) (on_texts lower upper t (two_texts t))
