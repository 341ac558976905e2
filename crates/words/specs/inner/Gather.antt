-- For inner contracts. What the code of a step gathers: the closures of the targets of transitions, in a set that it holds in four words.
use Rattle.std.specs.Prelude.{ℕ, ◌+◌, ◌*◌, ◌≤◌, Bool, ◌&&◌, ◌||◌, List, ◌≡◌, eqb, length}
use Rattle.lists.specs.Lists.{◌∈◌, any}
use Rattle.automata.specs.Automaton.{Transition, Automaton, holds, leaving}
use Rattle.sets.specs.Sets.{Set, has, pick}
use Rattle.sets.specs.inner.BitSet.{set_at, entries}
use Rattle.sheets.specs.inner.Accepted.{Accepted}
use Rattle.sheets.specs.inner.Runs.{Indexed}
use Rattle.sheets.specs.Sheet.{state_count, read}
use Rattle.words.specs.Simulation.{closure, closures}

-- the set S with each q that passes the test with some element
unfoldable pub with_all : {X : Type 0} → Set → (ℕ → X → Bool) → List X → Set
with_all S f xs = pick 256 (λ q. has q S || any (f q) xs)

-- the transition is a range that holds a
unfoldable pub takes : ℕ → Transition → Bool
takes a e = eqb e.kind 1 && holds a e

-- some transition that leaves p leads, under a and epsilons, to r
unfoldable pub reaches : Automaton → ℕ → ℕ → ℕ → Bool
reaches A a r p = any (λ e. takes a e && has r (closure A e.to)) (leaving A p)

-- the set in t with the rows of the table c for the targets of the transitions that take a
unfoldable pub gathered : List ℕ → List ℕ → ℕ → List Transition → Set
gathered t c a es = with_all (set_at t 0) (λ r e. takes a e && has r (set_at c (4 * e.to))) es

-- a table of k words has a row for each state that the transitions name
pub record RowsFor (k : ℕ) (es : List Transition) : Type 0 where
  pub froms : (e : Transition) → e ∈ es → 4 * e.from + 4 ≤ k
  pub tos : (e : Transition) → e ∈ es → 4 * e.to + 4 ≤ k

-- the tables of an accepted sheet: where its runs begin, and the closures
pub record Tables (s starts c : List ℕ) : Type 0 where
  pub accepted : Accepted s
  pub indexed : Indexed s starts
  pub long : 4 * state_count s ≤ length c
  pub closed : entries c (state_count s) ≡ closures (read s)

-- the set in t with all that the states of R reach under a
unfoldable pub with_reached : Automaton → ℕ → List ℕ → Set → Set
with_reached A a t R = with_all (set_at t 0) (reaches A a) R
