-- For inner contracts. A record at a place of a list of words.
use Rattle.std.specs.Prelude.{ℕ, ◌+◌, List, get_or}
use Rattle.automata.specs.Automaton.{Transition}

-- the record whose first word stands at `at`
abbrev pub record_at : List ℕ → ℕ → Transition
record_at s at = record { from = get_or s at 0; kind = get_or s (at + 1) 0; first = get_or s (at + 2) 0; last = get_or s (at + 3) 0; to = get_or s (at + 4) 0 }
