-- The sheet of document 01 as words, and what it means: three sections, each after its count. Start: 1, the start index.
-- States: n, then n accept words. Transitions: m, then m records of five words.
use Rattle.std.specs.Prelude.{ℕ, ◌+◌, List, ◌∷◌, ◌++◌, length, get_or, take, drop}
use Rattle.automata.specs.Automaton.{Automaton}
use Rattle.automata.specs.Records.{read_records, write_records}

abbrev pub state_count : List ℕ → ℕ
state_count s = get_or s 2 0

-- where the records begin
abbrev pub records_at : List ℕ → ℕ
records_at s = state_count s + 4

-- the automaton of a sheet
abbrev pub read : List ℕ → Automaton
read s = record {
  size = state_count s;
  start = get_or s 1 0;
  accept = take (state_count s) (drop 3 s);
  transitions = read_records (drop (records_at s) s);
}

-- the sheet of an automaton
abbrev pub write : Automaton → List ℕ
write A = 1 ∷ A.start ∷ A.size ∷ (A.accept ++ (length A.transitions ∷ write_records A.transitions))
