-- For inner contracts. The sheets of two determinizations, and what determinizing two sheets leaves in the outputs.
use Rattle.std.specs.Prelude.{ℕ, ◌≤◌, List, ◌≡◌, length, take, Result, Ok, Err}
use Rattle.automata.specs.Automaton.{Automaton}
use Rattle.automata.specs.Deterministic.{Deterministic}
use Rattle.refusal.specs.Answer.{refused, given}
use Rattle.refusal.specs.Number.{state_number}
use Rattle.refusal.specs.declared.StateRefusal.{StateRefusal}
use Rattle.sheets.specs.inner.Accepted.{Accepted}
use Rattle.sheets.specs.Sheet.{read}
use Rattle.determinizations.specs.Two.{Two}
use Rattle.determinizations.specs.Determinizations.{determinized}

-- the two automata of two sheets
abbrev pub two_of : List ℕ → List ℕ → ℕ → ℕ → Two
two_of a b lower upper = record { one = read a; two = read b; lower = lower; upper = upper }

-- two sheets in which every symbol has exactly one transition in every state
pub record DeterministicSheets (a b : List ℕ) (lower upper : ℕ) : Type 0 where
  pub first : Accepted a
  pub second : Accepted b
  pub one : Deterministic lower upper (read a)
  pub two : Deterministic lower upper (read b)

-- the sheets at the fronts of o and p, of m and of n words, are the determinizations of A and B
pub record FrontsDeterminized (lower upper : ℕ) (A B : Automaton) (o p : List ℕ) (m n : ℕ) : Type 0 where
  pub first_in : m ≤ length o
  pub second_in : n ≤ length p
  pub sheets : DeterministicSheets (take m o) (take n p) lower upper
  pub are : determinized lower upper A B ≡ given (two_of (take m o) (take n p) lower upper)

-- what the answer of the code says, with the outputs o and p as they are afterwards
abbrev pub BothDeterminized : ℕ → ℕ → Automaton → Automaton → List ℕ → List ℕ → Result (ℕ × ℕ) StateRefusal → Type 0
BothDeterminized lower upper A B o p (Ok (m, n)) = FrontsDeterminized lower upper A B o p m n
BothDeterminized lower upper A B o p (Err r) = determinized lower upper A B ≡ refused (state_number r)
