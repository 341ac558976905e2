-- For inner contracts. Records as arrays of five words.
use Rattle.std.specs.Prelude.{ℕ, List, map}
use Rattle.automata.specs.Automaton.{Transition}
use Rattle.automata.specs.inner.Records.{record_at}

-- the records of arrays of five words
unfoldable pub records_of : List (List ℕ) → List Transition
records_of rs = map (λ r. record_at r 0) rs
