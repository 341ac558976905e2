-- For inner contracts. The events of ranges: where each opens, and where it ends. A list of events has, in the code, the numbers of the ranges among the records of the
-- sheet. While they are put in order an event is a record of five words (symbol, number, the range's state, its last symbol, its target), so that records in
-- order are events in order.
use Rattle.std.specs.Prelude.{ℕ, zero, suc, ◌+◌, ◌*◌, ◌≤◌, ◌<◌, cond, List, [], ◌∷◌, ◌++◌, map, ◌≡◌, eqb, length, get_or, take}
use Rattle.automata.specs.Automaton.{Transition}
use Rattle.automata.specs.Ordered.{in_order}
use Rattle.automata.specs.inner.Records.{record_at}
use Rattle.sheets.specs.Sheet.{records_at}
use Rattle.sheets.specs.inner.Accepted.{record_count}
use Rattle.sweep.specs.declared.EventKind.{EventKind}
use Rattle.sweep.specs.declared.EventKind.TheVariants.{Opening, Ending}

-- the number by which the definitions below tell an opening from an ending
abbrev pub event_number : EventKind → ℕ
event_number Opening = 0
event_number Ending = 1

-- the words of record i of the sheet s, but for its kind
pub record RangeAt (s : List ℕ) (i state first last to : ℕ) : Type 0 where
  pub is_state : state ≡ get_or s (records_at s + 5 * i) 0
  pub is_first_lem : first ≡ get_or s (records_at s + 5 * i + 2) 0
  pub is_last : last ≡ get_or s (records_at s + 5 * i + 3) 0
  pub is_to : to ≡ get_or s (records_at s + 5 * i + 4) 0

-- where the range e of the number i opens, which is at its first symbol (k is 0), or where it ends, which is behind its last (k is 1)
unfoldable pub event : ℕ → ℕ → Transition → Transition
event k i e = record { from = cond (eqb k 0) e.first e.last; kind = i; first = e.from; last = e.last; to = e.to }

-- the event of record i of the sheet s
unfoldable pub event_at : ℕ → List ℕ → ℕ → Transition
event_at k s i = event k i (record_at s (records_at s + 5 * i))

-- the event of record i, if it is a range
unfoldable pub event_of : ℕ → List ℕ → ℕ → List Transition
event_of k s i = cond (eqb (get_or s (records_at s + 5 * i + 1) 0) 1) (event_at k s i ∷ []) []

-- the events of the m records from i on
unfoldable pub events_from : ℕ → List ℕ → ℕ → ℕ → List Transition
events_from k s zero i = []
events_from k s (suc m) i = event_of k s i ++ events_from k s m (suc i)

-- all events of the sheet
unfoldable pub events : ℕ → List ℕ → List Transition
events k s = events_from k s (record_count s) 0

-- the events of a list of numbers
abbrev pub events_at : ℕ → List ℕ → List ℕ → List Transition
events_at k s ev = map (event_at k s) ev

-- the numbers of ev are those of records of the sheet s
pub record RecordNumbers (s ev : List ℕ) : Type 0 where
  pub below : (j : ℕ) → j < length ev → get_or ev j 0 < record_count s

-- ev has, in order, the numbers of the events of the sheet s
pub record Lined (k : ℕ) (s ev : List ℕ) : Type 0 where
  pub ordered : events_at k s ev ≡ in_order (events k s)
  pub numbers : RecordNumbers s ev

-- so have its words before end
pub record Timed (k : ℕ) (s ev : List ℕ) (end : ℕ) : Type 0 where
  pub inside : end ≤ length ev
  pub lined : Lined k s (take end ev)
