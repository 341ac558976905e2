-- The kind of a word by its runs: the least accept word other than 0 among the states at their ends, or 0.
use Rattle.std.specs.Prelude.{ℕ, ◌≤◌, ◌<◌, List, ◌≡◌}
use Rattle.automata.specs.Automaton.{Automaton, Run, accept_of}

pub record Kind (A : Automaton) (w : List ℕ) (k : ℕ) : Type 0 where
  pub some : 0 < k → (q : ℕ) × Run A A.start w q × (accept_of A q ≡ k)
  pub least : (q : ℕ) → Run A A.start w q → 0 < accept_of A q → (0 < k) × (k ≤ accept_of A q)
