-- For inner contracts. What the functions of the first pass ask of the memory that they are lent.
use Rattle.std.specs.Prelude.{◌≡◌, ℕ, ◌%◌, ◌<◌, ◌≤◌, Option, Some, Result, Ok, List, length}
use Rattle.sets.specs.inner.Members.{Canon}
use Rattle.sets.specs.inner.BitSet.{set_at, entries}
use Rattle.sets.specs.inner.Places.{Placed}
use Rattle.sheets.specs.Sheet.{state_count, read}
use Rattle.words.specs.Simulation.{start_set}
use Rattle.words.specs.inner.Gather.{Tables}
use Rattle.determinize.specs.declared.Unfinished.{Unfinished}
use Rattle.determinize.specs.declared.exploring.SetCounts.{SetCounts}
use Rattle.determinize.specs.inner.Notes.{Canonical}

-- the words of `set` are a set of states of the sheet s
pub record StateSet (s set : List ℕ) : Type 0 where
  pub canon : Canon (state_count s) (set_at set 0)
  pub long : 4 ≤ length set

-- t has a table of n sets of states of the sheet s, and room for one more; `notes` has room for whole notes, and k are made
pub record TableAndNotes (s t notes : List ℕ) (n k : ℕ) : Type 0 where
  pub few : n < 256
  pub long : length t ≡ 1024
  pub canonical : Canonical (state_count s) (entries t n)
  pub whole : length notes % 5 ≡ 0
  pub bounded : k ≤ 1099511627776

-- the tables of the sheet s, and the start's closure in the first row of t
pub record StartTable (s starts closures t : List ℕ) : Type 0 where
  pub tables : Tables s starts closures
  pub start : set_at t 0 ≡ start_set (read s)
  pub long : length t ≡ 1024

-- the places lead to the sets of the table if the answer says how many these are; else they are free
pub record ProgressPlaced (places t : List ℕ) (x : Option SetCounts) : Type 0 where
  pub placed : (c : SetCounts) → x ≡ Some c → Placed places (entries t c.sets)

pub record ExplorationPlaced (places t : List ℕ) (x : Result (Option SetCounts) Unfinished) : Type 0 where
  pub placed : (y : Option SetCounts) → x ≡ Ok y → ProgressPlaced places t y
