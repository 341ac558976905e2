-- For inner contracts. What the first pass of the code keeps: the sets met so far in a table of words, and a note of each transition. A note is the transition's
-- record, but the number of the sink isn't known before the table is finished: 256 stands for it.
use Rattle.std.specs.Prelude.{◌≡◌, ℕ, suc, ◌+◌, ◌*◌, ◌<◌, ◌≤◌, cond, Option, Some, None, List, [], ◌∷◌, ◌++◌, map, length, ◌==◌, nat_le}
use Rattle.lists.specs.Lists.{◌∈◌}
use Rattle.stores.specs.Written.{Written}
use Rattle.automata.specs.Automaton.{Transition, Automaton}
use Rattle.automata.specs.Records.{write_records}
use Rattle.automata.specs.WellFormed.{most_states}
use Rattle.search.specs.Search
use Rattle.search.specs.Search.{over, found}
use Rattle.lists.specs.Index.{index, same}
use Rattle.sets.specs.Sets.{Set}
use Rattle.sets.specs.inner.Members.{Canon}
use Rattle.sets.specs.inner.BitSet.{entries}
use Rattle.words.specs.Simulation.{outgoing, step}
use Rattle.ranges.specs.Span.{Span}
use Rattle.ranges.specs.Cuts.{cut_all}
use Rattle.determinize.specs.declared.exploring.SetCounts.{SetCounts}
use Rattle.determinize.specs.Determinize.{set_targets, nonempty_of, set_table, sets_and_sink}

-- the table after some sets are met, one after the other: a nonempty set that it lacks goes to its end
unfoldable pub meet_sets : List Set → List Set → List Set
meet_sets Rs T = Search.meet same (nonempty_of Rs) T

unfoldable pub add_set : Set → List Set → List Set
add_set R T = meet_sets (R ∷ []) T

-- the number by which notes name a set: its place in the table, or 256 for the empty set
unfoldable pub set_number : Set → List Set → ℕ
set_number [] T = most_states
set_number (q ∷ S) T = index same (q ∷ S) T

-- the transition of a span of state j, which is the set S, as it is noted
unfoldable pub note_of : Automaton → List Set → ℕ → Set → Span → Transition
note_of A T j S s = record { from = j; kind = 1; first = s.first; last = s.last; to = set_number (step A S s.first) T }

unfoldable pub notes_of : ℕ → ℕ → Automaton → List Set → ℕ → Set → List Transition
notes_of lower upper A T j S = map (note_of A T j S) (cut_all lower upper (outgoing A S))

-- the notes of the states from j on, which are the sets Ss
unfoldable pub notes_from : ℕ → ℕ → Automaton → List Set → ℕ → List Set → List Transition
notes_from lower upper A T j [] = []
notes_from lower upper A T j (S ∷ Ss) = notes_of lower upper A T j S ++ notes_from lower upper A T (suc j) Ss

-- the notes of the sink, which has the number j: a loop, if there is a symbol
unfoldable pub sink_notes : ℕ → ℕ → ℕ → List Transition
sink_notes lower upper j = cond (nat_le lower upper) (record { from = j; kind = 1; first = lower; last = upper; to = most_states } ∷ []) []

-- the transition that a note stands for, where the sink has the number n
unfoldable pub noted_transition : ℕ → Transition → Transition
noted_transition n e = record { from = e.from; kind = e.kind; first = e.first; last = e.last; to = cond (e.to == most_states) n e.to }

-- each set has states below n
pub record Canonical (n : ℕ) (T : List Set) : Type 0 where
  pub each : (S : Set) → S ∈ T → Canon n S

-- the set R is met by a table of the sets T: t is the table afterwards, n the number of its sets, and j the number of R
pub record SetPlaced (R : Set) (T : List Set) (t : List ℕ) (n j : ℕ) : Type 0 where
  pub added : entries t n ≡ add_set R T
  pub named : j ≡ set_number R (entries t n)
  pub few : n ≤ most_states

-- the span from first to last of state j, which leads to R, is visited: R is met, and the note stands behind the k notes of `before`
pub record SpanVisited (R : Set) (T : List Set) (j first last : ℕ) (before : List ℕ) (k : ℕ) (t after : List ℕ) (n : ℕ) : Type 0 where
  pub added : entries t n ≡ add_set R T
  pub few : n ≤ most_states
  pub noted : Written before (5 * k) (j ∷ 1 ∷ first ∷ last ∷ set_number R (entries t n) ∷ []) after (5 * k + 5)

-- all spans of state j, which is the set S, are visited, and the table of the sets T has met what they lead to: it is t, with n sets. Whatever sets
-- it gets later, the notes of the spans stand behind the k notes before, and there are m notes in all.
pub record SpansVisited (lower upper : ℕ) (A : Automaton) (S : Set) (T : List Set) (j : ℕ) (before : List ℕ) (k : ℕ) (t after : List ℕ) (n m : ℕ) : Type 0 where
  pub met : entries t n ≡ meet_sets (set_targets lower upper A S) T
  pub few : n < most_states
  pub canonical : Canonical A.size (entries t n)
  pub noted : (more : List Set) → Written before (5 * k) (write_records (notes_of lower upper A (entries t n ++ more) j S)) after (5 * m)
  pub bounded : m ≤ k + 4294967296

-- what the answer of the code says of the spans of a state: they are visited, or they lead to more sets than the table may have
unfoldable pub SpansResult : ℕ → ℕ → Automaton → Set → List Set → ℕ → List ℕ → ℕ → List ℕ → List ℕ → Option SetCounts → Type 0
SpansResult lower upper A S T j before k t after None = most_states ≤ length (meet_sets (set_targets lower upper A S) T)
SpansResult lower upper A S T j before k t after (Some c) = SpansVisited lower upper A S T j before k t after c.sets c.notes

-- the table is finished with n sets, and the notes of all states, m of them, stand at the front of `after`
pub record TableFinished (lower upper : ℕ) (A : Automaton) (before t after : List ℕ) (n m : ℕ) : Type 0 where
  pub whole : set_table lower upper A ≡ found (entries t n)
  pub few : n < most_states
  pub canonical : Canonical A.size (entries t n)
  pub noted : Written before 0 (write_records (notes_from lower upper A (entries t n) 0 (sets_and_sink (entries t n)))) after (5 * m)

-- what the answer of the code says of the table: it is finished, or there is none because it has too many sets
unfoldable pub TableResult : ℕ → ℕ → Automaton → List ℕ → List ℕ → List ℕ → Option SetCounts → Type 0
TableResult lower upper A before t after None = set_table lower upper A ≡ over
TableResult lower upper A before t after (Some c) = TableFinished lower upper A before t after c.sets c.notes
