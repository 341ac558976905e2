-- For inner contracts. What the code of the closures does to its table of rows, before Warshall's rounds.
use Rattle.std.specs.Prelude.{ℕ, ◌*◌, ◌≤◌, ◌<◌, ◌||◌, List, [], ◌≡◌, eqb, length}
use Rattle.automata.specs.Automaton.{Transition}
use Rattle.sets.specs.Sets.{Set, has, pick}
use Rattle.sets.specs.inner.BitSet.{set_at}
use Rattle.words.specs.Simulation.{is_epsilon}
use Rattle.words.specs.inner.Gather.{with_all}

-- a table of at least n rows, in which each row is empty
pub record Fresh (n : ℕ) (t : List ℕ) : Type 0 where
  pub long : 4 * n ≤ length t
  pub empty : (o : ℕ) → set_at t o ≡ []

-- the rows below n of u are those of t with their own number, the others are those of t
pub record SelvesAdded (t u : List ℕ) (n : ℕ) : Type 0 where
  pub below : (p : ℕ) → p < n → set_at u (4 * p) ≡ pick 256 (λ q. has q (set_at t (4 * p)) || eqb p q)
  pub above : (p : ℕ) → n ≤ p → set_at u (4 * p) ≡ set_at t (4 * p)

-- row p of the table t with the targets of the epsilons from p
unfoldable pub with_epsilons : List ℕ → ℕ → List Transition → Set
with_epsilons t p es = with_all (set_at t (4 * p)) (is_epsilon p) es

-- the rows of u are those of t with the targets of the epsilons
pub record EpsilonsAdded (t u : List ℕ) (es : List Transition) : Type 0 where
  pub row : (p : ℕ) → p < 256 → set_at u (4 * p) ≡ with_epsilons t p es

-- what is left to add to u gives what is to be added to t
pub record EpsilonsLeft (t : List ℕ) (es : List Transition) (u : List ℕ) (ds : List Transition) : Type 0 where
  pub row : (p : ℕ) → p < 256 → with_epsilons u p ds ≡ with_epsilons t p es
