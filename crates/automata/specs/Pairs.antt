-- Pairs of states, one of each of two automata.
use Rattle.std.specs.Prelude.{ℕ, Bool, ◌&&◌, eqb}

-- a state of the first automaton and one of the second
pub record Pair : Type 0 where
  pub left : ℕ
  pub right : ℕ

-- two pairs are the same
unfoldable pub same_pair : Pair → Pair → Bool
same_pair p q = eqb p.left q.left && eqb p.right q.right
