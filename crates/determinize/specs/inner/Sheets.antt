-- For inner contracts. What the code of determinizing an accepted sheet is told by: the sheet of a finished table, and its answer with the output.
use Rattle.std.specs.Prelude.{ℕ, suc, List, [], ◌∷◌, ◌++◌, map, length, Result, Ok, Err}
use Rattle.std.proofs.lemmas.List.Edits.{sets}
use Rattle.automata.specs.Automaton.{Transition, Automaton}
use Rattle.refusal.specs.Answer.{Answer, refused, given}
use Rattle.refusal.specs.Number.{state_number}
use Rattle.refusal.specs.Outcome.{Outcome, outcome}
use Rattle.refusal.specs.declared.StateRefusal.{StateRefusal}
use Rattle.sets.specs.Sets.{Set}
use Rattle.sheets.specs.Sheet.{write}
use Rattle.words.specs.Simulation.{kind_of}
use Rattle.determinize.specs.declared.Determinized.{Determinized}
use Rattle.determinize.specs.inner.Notes.{noted_transition}

-- the automaton whose states are the sets T and the sink, with the transitions that the notes es stand for
unfoldable pub noted_automaton : Automaton → List Set → List Transition → Automaton
noted_automaton A T es = record {
  size = suc (length T);
  start = 0;
  accept = map (kind_of A) T ++ 0 ∷ [];
  transitions = map (noted_transition (length T)) es;
}

-- how many words a sheet takes and how many states it has
pub record SheetSize : Type 0 where
  pub words : ℕ
  pub states : ℕ

abbrev pub size_of : Automaton → SheetSize
size_of D = record { words = length (write D); states = D.size }

-- a sheet stored at the front of the output o
abbrev pub stored_sheet : List ℕ → Automaton → List ℕ
stored_sheet o D = sets o 0 (write D)

abbrev pub SheetOutput : Type 0
SheetOutput = Outcome SheetSize (List ℕ)

-- the outcome of an answer, where o is lent for the sheet
unfoldable pub sheet_output : List ℕ → Answer Automaton → SheetOutput
sheet_output o a = outcome size_of stored_sheet o a

-- the outcome of a function that answers r, where o is the output afterwards
abbrev pub determinized_of : Result Determinized StateRefusal → List ℕ → SheetOutput
determinized_of (Ok d) o = record { answer = given (record { words = d.words; states = d.states }); memory = o }
determinized_of (Err r) o = record { answer = refused (state_number r); memory = o }
