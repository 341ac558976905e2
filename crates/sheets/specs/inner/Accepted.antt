-- For inner contracts. What it says of a sheet that it has no fault, as facts that a proof reads by their names.
use Rattle.std.specs.Prelude.{ℕ, ◌+◌, ◌*◌, ◌≤◌, ◌<◌, ◌≡◌, true, List, [], length, get_or, take, drop}
use Rattle.automata.specs.Records.{read_records}
use Rattle.automata.specs.WellFormed.{most_states, most_transitions}
use Rattle.sheets.specs.Sheet.{state_count, records_at}
use Rattle.sheets.specs.Fault.{accept_words, records_fault}

abbrev pub record_count : List ℕ → ℕ
record_count s = get_or s (state_count s + 3) 0

-- a sheet without a fault, and only such a sheet (the theorem `accepted_exact`): an accepted automaton of document 01
pub record Accepted (s : List ℕ) : Type 0 where
  pub one_start : get_or s 0 0 ≡ 1
  pub some_state : 0 < state_count s
  pub few_states : state_count s ≤ most_states
  pub few_records : record_count s ≤ most_transitions
  pub start : get_or s 1 0 < state_count s
  pub whole : length s ≡ records_at s + 5 * record_count s
  pub accept_words_lem : accept_words (take (state_count s) (drop 3 s)) ≡ true
  pub records : records_fault (state_count s) [] (read_records (drop (records_at s) s)) ≡ 0
