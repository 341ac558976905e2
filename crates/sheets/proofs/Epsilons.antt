-- Whether an epsilon is among the records from an index on.
use Rattle.std.proofs.Common.{ℕ, ◌≡◌, ◌+◌, ◌≤◌, ◌<◌, false, ◌||◌, eqb, List, [], length, get_or, drop}
use Rattle.lists.specs.Lists.{any}
use Rattle.automata.specs.Automaton.{has_epsilon}
use Rattle.automata.specs.inner.Chunks.{records_of}
use Rattle.automata.proofs.Chunks.{records_next, records_done}

pub epsilon_next : (rs : List (List ℕ)) (i : ℕ) → i < length rs
    → has_epsilon (records_of (drop i rs)) ≡ (eqb (get_or (get_or rs i []) 1 0) 0 || has_epsilon (records_of (drop (i + 1) rs)))
unfolding has_epsilon any
epsilon_next rs i h = rw (records_next rs i h)

pub epsilon_done : (rs : List (List ℕ)) (i : ℕ) → length rs ≤ i → has_epsilon (records_of (drop i rs)) ≡ false
unfolding has_epsilon any
epsilon_done rs i h = rw (records_done rs i h)
