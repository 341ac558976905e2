-- Automata in which every symbol has one transition in every state, read step by step.
use Rattle.std.specs.Prelude.{ℕ, List, [], ◌∷◌}
use Rattle.lists.specs.Lists.{filter}
use Rattle.automata.specs.Automaton.{Transition, Automaton, accept_of, carries}

abbrev pub first_target : List Transition → ℕ
first_target [] = 0
first_target (d ∷ ds) = d.to

-- the state that the symbol x leads to from p: the target of the one transition that leaves p and holds x
unfoldable pub successor : Automaton → ℕ → ℕ → ℕ
successor D p x = first_target (filter (carries p x) D.transitions)

-- the state at the end of a word that is read from p on
unfoldable pub state_after : Automaton → ℕ → List ℕ → ℕ
state_after D p [] = p
state_after D p (x ∷ w) = state_after D (successor D p x) w

-- the accept word of the state at the end of a word that is read from the start on
abbrev pub accept_after : Automaton → List ℕ → ℕ
accept_after D w = accept_of D (state_after D D.start w)
