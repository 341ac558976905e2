-- What a line says of the words of two automata (demand 3).
use Rattle.std.specs.Prelude.{ℕ, ◌+◌, ◌≤◌, List, ◌↔◌, ◌≡◌, length}
use Rattle.automata.specs.Automaton.{Automaton, Word}
use Rattle.automata.specs.SameWords.{SameWords, ExactlyOne}
use Rattle.verdict_line.specs.Line.{same_line, differ_line}

-- a line on the automata A and B, whose determinizations have `most` states together: `same` just when they accept the same words, and else
-- `differ` with a short word that exactly one of them accepts
pub record Says (lower upper : ℕ) (A B : Automaton) (most : ℕ) (bytes : List ℕ) : Type 0 where
  pub alike : ((joins : ℕ) × (bytes ≡ same_line joins)) ↔ SameWords lower upper A B
  pub different : (SameWords lower upper A B → ⊥) → (w : List ℕ) × (bytes ≡ differ_line w) × Word lower upper w × ExactlyOne A B w × (length w + 2 ≤ most)
