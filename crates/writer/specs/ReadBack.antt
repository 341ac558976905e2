-- What it means that the pattern Q, read from a text, is the written part of the pattern P under the labels of P.
use Rattle.std.specs.Prelude.{ℕ, ◌≤◌, ◌<◌, true, ◌↔◌, ◌≡◌, eqb, take, drop}
use mathlib.Core.List.{List, [], ◌∷◌, flat_map}
use Rattle.lists.specs.Index.{index}
use Rattle.lists.specs.Lists.{◌∈◌}
use Rattle.automata.specs.Automaton.{Transition, Automaton, Accepts, accept_of}
use Rattle.automata.specs.WellFormed.{WellFormed, Fits, last_symbol}
use Rattle.output.specs.Output.{Pattern, label_of, read_pattern}
use Rattle.parser.specs.Pattern.{reading_answer}
use Rattle.refusal.specs.Answer.{given}
use Rattle.writer.specs.Text.{is_written}

-- an automaton that a sheet holds: well formed, within the limits, and its symbols are words of 32 bits
pub record OfSheet (A : Automaton) : Type 0 where
  pub well : WellFormed A
  pub fits : Fits A
  pub symbols : (e : Transition) → e ∈ A.transitions → e.last ≤ last_symbol

-- q is a state that is written
abbrev pub WrittenState : Pattern → ℕ → Type 0
WrittenState P q = (q < P.automaton.size) × (is_written P.automaton q ≡ true)

-- a transition between the new numbers of its states
abbrev pub renumbered : (ℕ → ℕ) → Transition → Transition
renumbered f e = record { from = f e.from; kind = e.kind; first = e.first; last = e.last; to = f e.to }

-- the states in the order in which the text names them: the start, then those of each record
abbrev pub appearing : Automaton → List ℕ
appearing A = A.start ∷ flat_map (λ e. e.from ∷ e.to ∷ []) A.transitions

-- the new numbers number the written states of P one to one by the states of Q, by appearance; start, labels, acceptance and transitions are those of P
pub record ReadBack (P Q : Pattern) : Type 0 where
  pub number : ℕ → ℕ
  pub inside : (q : ℕ) → WrittenState P q → number q < Q.automaton.size
  pub one : (p q : ℕ) → WrittenState P p → WrittenState P q → number p ≡ number q → p ≡ q
  pub all : (r : ℕ) → r < Q.automaton.size → (q : ℕ) × WrittenState P q × (number q ≡ r)
  pub appearance : (p q : ℕ) → WrittenState P p → WrittenState P q
      → (number p < number q) ↔ (index eqb p (appearing P.automaton) < index eqb q (appearing P.automaton))
  pub labels : (q : ℕ) → WrittenState P q → label_of Q (number q) ≡ label_of P q
  pub start : Q.automaton.start ≡ number P.automaton.start
  pub accepting : (q : ℕ) → WrittenState P q → (0 < accept_of Q.automaton (number q)) ↔ (0 < accept_of P.automaton q)
  pub transitions : (e : Transition) → (e ∈ Q.automaton.transitions) ↔ ((d : Transition) × d ∈ P.automaton.transitions × (e ≡ renumbered number d))

-- what writing the sheet s with the labels b leaves in the buffer o', which was o: the first n bytes are a text that is read to its end, as the written
-- part of the pattern under its labels, which accepts the same words, and what stands behind them is unchanged
pub record TextLeft (s b o : List ℕ) (n : ℕ) (o' : List ℕ) : Type 0 where
  pub pattern : Pattern
  pub whole : reading_answer (take n o') ≡ given (record { pattern = pattern; read = n })
  pub states : ReadBack (read_pattern s b) pattern
  pub words : (w : List ℕ) → Accepts pattern.automaton w ↔ Accepts (read_pattern s b).automaton w
  pub behind : drop n o' ≡ drop n o
