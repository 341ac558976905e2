-- What is proved of the line of the program `verdict`:
--   verdict_says: on two texts whose determinizations fit it is `same` exactly when their automata accept the same words, and otherwise `differ` with a
--   short word that exactly one of them accepts (demand 3)
--   verdict_first_33, verdict_second_33: on two texts it is `refused 33` where an accepting name of the first is no state, and where one of the second is
--   none and the first is read (document 02, M-101)
use Prim.Native.Nat.{ℕ, ◌+◌, ◌≤◌}
use mathlib.Core.List.{List}
use mathlib.Core.Path.{◌≡◌, refl, ◌∙◌, ap, subst}
use native.Mathlib.Omega.{arith}
use borrow.Author.Tests.{le-ltb}
use lib.ListN.{length, drop}
use Rattle.automata.specs.Automaton.{Automaton}
use Rattle.automata.specs.WellFormed.{WellFormed}
use Rattle.automata.proofs.SameWords.{not_same}
use Rattle.grammar.specs.Grammar.{found, mark}
use Rattle.refusal.specs.Answer.{Answer, refused, given}
use Rattle.determinize.specs.Determinize.{determinize}
use Rattle.determinizations.specs.Two.{Two, total_size}
use Rattle.determinizations.proofs.Theorems.{determinized_both, same_words, one_word}
use Rattle.parser.specs.Pattern.{Reading, reading_answer}
use Rattle.parser.specs.Misspelt.{Misspelt}
use Rattle.parser.proofs.Outcomes.{answers_33, answers_given}
use Rattle.sheets.proofs.Decisions.{given_not}
use Rattle.syntax.specs.Syntax.{Said, BeginsWith}
use Rattle.equality.specs.Verdict.{Equal, Apart}
use Rattle.verdict_line.specs.Texts.{two_texts, with_first_text, with_second_text, on_texts, verdict_answer}
use Rattle.verdict_line.specs.Line.{VerdictLine, refuses, same, differs, same_line, differ_line, refused_line}
use Rattle.verdict_line.specs.Says.{Says}

module _ (lower upper : ℕ) (A B : Automaton) (well_a : WellFormed A) (well_b : WellFormed B) (D E : Automaton) (is-d : determinize lower upper A ≡ given D)
    (is-e : determinize lower upper B ≡ given E) where
  abbrev two : Two
  two = record { one = D; two = E; lower = lower; upper = upper }

  says_same : (joins : ℕ) → Equal two joins → Says lower upper A B (total_size two) (same_line joins)
  says_same joins e =
      let s = same_words lower upper A B well_a well_b D E is-d is-e e.words in
      record { alike = (λ _. s, λ _. (joins, refl)); different = λ n. absurd (n s) }

  says_differ : (w : List ℕ) → Apart two w → Says lower upper A B (total_size two) (differ_line w)
  says_differ w a =
      let one = one_word lower upper A B well_a well_b D E is-d is-e w a.word a.differ in
      record {
        alike = (λ e. absurd (let q = e.1 in let z : ◌≡◌ {A = ℕ} 100 115 = cc in omega arith), λ s. absurd (not_same lower upper A B w one a.word s));
        different = λ n. (w, refl, a.word, one, a.short);
      }

  line_says : (x : Answer Two) (bytes : List ℕ) → x ≡ given two → VerdictLine x bytes → Says lower upper A B (total_size two) bytes
  line_says x bytes e (refuses n) = absurd (let z : ◌≡◌ {A = ℕ} 0 1 = cc in omega arith)
  line_says x bytes e (same t joins h) = let z : t ≡ two = cc in says_same joins (subst (λ (u : Two). Equal u joins) z h)
  line_says x bytes e (differs t w h) = let z : t ≡ two = cc in says_differ w (subst (λ (u : Two). Apart u w) z h)

-- an input of two texts that are read as the automata A and B, both within the limits of determinizing
module _ (lower upper : ℕ) (t : List ℕ) (at : ℕ) (few : length t ≤ 65536) (texts : two_texts t ≡ found mark at) (R S : Reading) (first : reading_answer t ≡ given R) (second : reading_answer (drop at t) ≡ given S)
    (D E : Automaton) (is-d : determinize lower upper R.pattern.automaton ≡ given D) (is-e : determinize lower upper S.pattern.automaton ≡ given E) where
  is_two : verdict_answer lower upper t ≡ given (record { one = D; two = E; lower = lower; upper = upper })
  unfolding verdict_answer with_first_text with_second_text
  is_two = rw (le-ltb 65536 (length t) few) (ap (on_texts lower upper t) texts ∙ rw (first, second) (determinized_both lower upper R.pattern.automaton S.pattern.automaton D E is-d is-e))

  pub verdict_says : (bytes : List ℕ) → VerdictLine (verdict_answer lower upper t) bytes → Says lower upper R.pattern.automaton S.pattern.automaton (D.size + E.size) bytes
  verdict_says bytes l =
      line_says lower upper R.pattern.automaton S.pattern.automaton (answers_given t R first).writable.well (answers_given (drop at t) S second).writable.well D E is-d is-e _ bytes is_two l

line_refuses : (n : ℕ) (x : Answer Two) (bytes : List ℕ) → x ≡ refused n → VerdictLine x bytes → bytes ≡ refused_line n
line_refuses n x bytes e (refuses m) = let z : m ≡ n = cc in ap refused_line z
line_refuses n x bytes e (same y joins h) = absurd (given_not y n e)
line_refuses n x bytes e (differs y w h) = absurd (given_not y n e)

-- an input of two texts
module _ (lower upper : ℕ) (t : List ℕ) (at : ℕ) (few : length t ≤ 65536) (texts : two_texts t ≡ found mark at) (bytes : List ℕ)
    (l : VerdictLine (verdict_answer lower upper t) bytes) where
  is_first_lem : (n : ℕ) → reading_answer t ≡ refused n → verdict_answer lower upper t ≡ refused n
  unfolding verdict_answer with_first_text
  is_first_lem n e = rw (le-ltb 65536 (length t) few) (ap (on_texts lower upper t) texts ∙ rw e)

  is_second : (R : Reading) → reading_answer t ≡ given R → (n : ℕ) → reading_answer (drop at t) ≡ refused n → verdict_answer lower upper t ≡ refused n
  unfolding verdict_answer with_first_text with_second_text
  is_second R f n e = rw (le-ltb 65536 (length t) few) (ap (on_texts lower upper t) texts ∙ rw (f, e))

  pub verdict_first_33 : (u : List ℕ) (s : Said) → BeginsWith t u s → Misspelt s → bytes ≡ refused_line 33
  verdict_first_33 u s b m = line_refuses 33 _ bytes (is_first_lem 33 ((answers_33 t).1 (u, s, b, m))) l

  pub verdict_second_33 : (R : Reading) → reading_answer t ≡ given R → (u : List ℕ) (s : Said) → BeginsWith (drop at t) u s → Misspelt s → bytes ≡ refused_line 33
  verdict_second_33 R f u s b m = line_refuses 33 _ bytes (is_second R f 33 ((answers_33 (drop at t)).1 (u, s, b, m))) l
