-- For inner contracts. When the first pass gives up and what it then leaves, and what is known of a number that a set got.
use Rattle.std.specs.Prelude.{◌≡◌, ℕ, ◌+◌, ◌-◌, ◌*◌, ◌<◌, ◌≤◌, cond, Option, Some, Result, Ok, Err, List, [], ◌∷◌, length, nat_lt, slice_index, slice_index_or}
use Rattle.automata.specs.Automaton.{Automaton}
use Rattle.sets.specs.Sets.{Set}
use Rattle.sets.specs.inner.BitSet.{set_at}
use Rattle.words.specs.Simulation.{start_set}
use Rattle.determinize.specs.declared.Unfinished.{Unfinished}
use Rattle.determinize.specs.declared.exploring.SetCounts.{SetCounts}
use Rattle.determinize.specs.inner.Notes.{set_number, SpansResult, TableResult}

-- how many words the run of q has, by the table of the runs
unfoldable pub run_length : List ℕ → ℕ → ℕ
run_length starts q = cond (nat_lt (q + 1) (length starts)) (slice_index starts (q + 1) - slice_index starts q) 0

-- how many the runs of the states have together
unfoldable pub run_lengths : List ℕ → Set → ℕ
run_lengths starts [] = 0
run_lengths starts (q ∷ S) = run_length starts q + run_lengths starts S

-- what a try to visit the spans of a state came to, with the table t as it was: an answer, or the first row of the table is as it was
unfoldable pub SpansExploration : ℕ → ℕ → Automaton → Set → List Set → ℕ → List ℕ → ℕ → List ℕ → List ℕ → List ℕ → Result (Option SetCounts) Unfinished → Type 0
SpansExploration lower upper A S T j before k t u after (Err e) = set_at u 0 ≡ set_at t 0
SpansExploration lower upper A S T j before k t u after (Ok x) = SpansResult lower upper A S T j before k u after x

-- the table and the notes that the first pass came to, from some memory for notes, which has room for them unless they are too many for a result
pub record TableResultWithRoom (lower upper : ℕ) (A : Automaton) (t notes : List ℕ) (x : Option SetCounts) : Type 0 where
  pub before : List ℕ
  pub explored : TableResult lower upper A before t notes x
  pub room : (c : SetCounts) → x ≡ Some c → c.notes ≤ 2048 → 5 * c.notes ≤ length before

-- what the first pass came to: an answer, or the first row of the table is as it was
unfoldable pub TableExploration : ℕ → ℕ → Automaton → List ℕ → List ℕ → Result (Option SetCounts) Unfinished → Type 0
TableExploration lower upper A t notes (Err e) = set_at t 0 ≡ start_set A
TableExploration lower upper A t notes (Ok x) = TableResultWithRoom lower upper A t notes x

-- j is the number of the set that stands there, if it is a place of the table
pub record SetNumbered (T : List Set) (j : ℕ) : Type 0 where
  pub found : j < length T → set_number (slice_index_or T j []) T ≡ j
