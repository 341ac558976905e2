-- Closures, steps and the states at a word's end (document 01, "Closures and words").
use Rattle.std.specs.Prelude.{ℕ, Bool, cond, ◌&&◌, ◌||◌, List, [], ◌∷◌, eqb, leb, get_or}
use Rattle.lists.specs.Lists.{any, filter, tabulate}
use Rattle.automata.specs.Automaton.{Transition, Automaton, holds, accept_of}
use Rattle.sets.specs.Sets.{Set, has, pick}
use Rattle.sets.specs.Closure.{closed}

-- the transition is an epsilon from p to q
unfoldable pub is_epsilon : ℕ → ℕ → Transition → Bool
is_epsilon p q e = eqb e.kind 0 && (eqb e.from p && eqb e.to q)

-- p itself and what one epsilon reaches
unfoldable pub epsilon_row : Automaton → ℕ → Set
epsilon_row A p = pick A.size (λ q. eqb p q || any (is_epsilon p q) A.transitions)

-- for each state what any number of epsilons reaches: the closure of the rows after Warshall
unfoldable pub closures : Automaton → List Set
closures A = closed A.size A.size (tabulate A.size (epsilon_row A))

unfoldable pub closure : Automaton → ℕ → Set
closure A p = get_or (closures A) p []

-- the ranges that leave a state of the set
unfoldable pub outgoing : Automaton → Set → List Transition
outgoing A S = filter (λ e. eqb e.kind 1 && has e.from S) A.transitions

-- the union of the closures of all targets whose range holds the symbol
unfoldable pub step : Automaton → Set → ℕ → Set
step A S a = pick A.size (λ q. any (λ e. holds a e && has q (closure A e.to)) (outgoing A S))

unfoldable pub start_set : Automaton → Set
start_set A = closure A A.start

-- the states at the end of a word that is read from the states of S
unfoldable pub simulate : Automaton → Set → List ℕ → Set
simulate A S [] = S
simulate A S (a ∷ w) = simulate A (step A S a) w

-- the smaller of two accept words that is not 0, or 0
unfoldable pub least : ℕ → ℕ → ℕ
least a b = cond (eqb a 0) b (cond (eqb b 0) a (cond (leb a b) a b))

-- the least nonzero accept word among the states, or 0
unfoldable pub kind_of : Automaton → Set → ℕ
kind_of A [] = 0
kind_of A (q ∷ S) = least (accept_of A q) (kind_of A S)

-- the accept word that the states at the word's end give it: 0 where none accepts
unfoldable pub kind : Automaton → List ℕ → ℕ
kind A w = kind_of A (simulate A (start_set A) w)
