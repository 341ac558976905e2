-- A transition of an automaton as one that a text says.
use Rattle.std.specs.Prelude.{ℕ, ◌<◌, List, [], ◌≡◌, length, get_or}
use Rattle.automata.specs.Automaton.{Transition}
use Rattle.syntax.specs.Syntax.{Move}

-- ls are the names of the states: e is the transition m between the states that it names
pub record IsMove (ls : List (List ℕ)) (e : Transition) (m : Move) : Type 0 where
  pub from_state : e.from < length ls
  pub from_name : get_or ls e.from [] ≡ m.from
  pub to_state_lem : e.to < length ls
  pub to_name : get_or ls e.to [] ≡ m.to
  pub kind : e.kind ≡ 1
  pub first : e.first ≡ m.first
  pub last : e.last ≡ m.last
