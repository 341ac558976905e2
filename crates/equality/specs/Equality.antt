-- Exact equality of two sheets (document 01, "Equality"): when it is refused, what holds of the verdict, and what demand 3 asks of it.
use Rattle.std.specs.Prelude.{ℕ, ◌+◌, ◌≤◌, List, ◌↔◌, ◌≡◌, length, take, drop}
use Rattle.automata.specs.Automaton.{Automaton, Word}
use Rattle.automata.specs.SameWords.{SameWords, ExactlyOne}
use Rattle.refusal.specs.Answer.{Answer, refused, given}
use Rattle.refusal.specs.Number.{number_of}
use Rattle.refusal.specs.Outcome.{length_first}
use Rattle.sheets.specs.Checked.{sheet_first}
use Rattle.sheets.specs.Fault.{fault}
use Rattle.sheets.specs.Sheet.{read}
use Rattle.dsu.specs.Classes.{Classes}
use Rattle.determinizations.specs.Two.{Two, total_size}
use Rattle.determinizations.specs.Determinizations.{determinized}
use Rattle.equality.specs.declared.Verdict.{Verdict}
use Rattle.equality.specs.declared.Verdict.TheVariants.{Same, Different, Refused}
use Rattle.equality.specs.Forced.{Forced}
use Rattle.equality.specs.Verdict.{Decided}

-- the fixed size of the buffer for the difference word
abbrev pub word_size : ℕ
word_size = 510

-- the two automata that are walked, or the refusal: 20 where the buffer o is too short; the first sheet's faults, the second's; 21 and 22
unfoldable pub equality_answer : ℕ → ℕ → List ℕ → List ℕ → List ℕ → Answer Two
equality_answer lower upper a b o = length_first word_size o (sheet_first a (sheet_first b (determinized lower upper (read a) (read b))))

-- what holds of a verdict: after a refusal its number and an unchanged buffer, else what the walk decides
unfoldable pub Judged : Answer Two → List ℕ → List ℕ → Verdict → Type 0
Judged (refused n) o o' (Same joins) = ⊥
Judged (refused n) o o' (Different m) = ⊥
Judged (refused n) o o' (Refused r) = (number_of r ≡ n) × (o' ≡ o)
Judged (given t) o o' r = Decided t o o' r

-- nothing is refused before the determinizations: 510 words are lent, and both sheets are accepted
pub record Clear (a b o : List ℕ) : Type 0 where
  pub room : word_size ≤ length o
  pub first : fault a ≡ 0
  pub second : fault b ≡ 0

-- document 01's number of a verdict: 0 where nothing is refused
abbrev pub verdict_number : Verdict → ℕ
verdict_number (Same joins) = 0
verdict_number (Different n) = 0
verdict_number (Refused r) = number_of r

-- n is the length of a word at the front of o' that exactly one of A and B accepts; it is short, and nothing behind it was written
pub record Differs (lower upper : ℕ) (A B : Automaton) (most : ℕ) (o o' : List ℕ) (n : ℕ) : Type 0 where
  pub word : Word lower upper (take n o')
  pub one : ExactlyOne A B (take n o')
  pub long : length (take n o') ≡ n
  pub short : n + 2 ≤ most
  pub behind : drop n o' ≡ drop n o

-- demand 3 of the verdict r on the automata A and B, whose determinizations are those of t
pub record Exact (lower upper : ℕ) (A B : Automaton) (t : Two) (o o' : List ℕ) (r : Verdict) : Type 0 where
  pub same : ((joins : ℕ) × (r ≡ Same joins)) ↔ SameWords lower upper A B
  pub different : (SameWords lower upper A B → ⊥) → (n : ℕ) × (r ≡ Different n) × Differs lower upper A B (total_size t) o o' n
  pub joins : (joins : ℕ) → r ≡ Same joins → (classes : ℕ) × Classes (Forced t) (total_size t) classes × (joins + classes ≡ total_size t) × (o' ≡ o)
