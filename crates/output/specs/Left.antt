-- What a call leaves in the two lent outputs, told of the memory afterwards: an accepted sheet at the front of one, an accepted label list at the
-- front of the other, and all behind them as it was.
use Rattle.std.specs.Prelude.{ℕ, ◌≤◌, List, ◌≡◌, length, take, drop, Result, Ok, Err}
use Rattle.automata.specs.Automaton.{Automaton}
use Rattle.labels.specs.Labels.{labels_fault, read_labels}
use Rattle.refusal.specs.Number.{number_of}
use Rattle.refusal.specs.declared.Refusal.{Refusal}
use Rattle.sheets.specs.Fault.{fault}
use Rattle.sheets.specs.Sheet.{read}
use Rattle.output.specs.Output.{sheet_size, labels_size}
use Rattle.output.specs.declared.Made.{Made}

-- document 01's number of an answer: 0 where nothing is refused
abbrev pub made_number : Result Made Refusal → ℕ
made_number (Ok m) = 0
made_number (Err r) = number_of r

-- the outputs have their fixed sizes
pub record Room (o l : List ℕ) : Type 0 where
  pub words : sheet_size ≤ length o
  pub bytes : labels_size ≤ length l

-- o and l are the outputs before the call, o' and l' after it; w and b are the lengths that it answers. The first w words are an accepted sheet that
-- reads as A, the first b bytes are an accepted list of the labels ls of A's states, and what stands behind them is unchanged
pub record Leaves (o l o' l' : List ℕ) (w b : ℕ) (A : Automaton) (ls : List (List ℕ)) : Type 0 where
  pub words : length (take w o') ≡ w
  pub accepted : fault (take w o') ≡ 0
  pub reads : read (take w o') ≡ A
  pub behind : drop w o' ≡ drop w o
  pub bytes : length (take b l') ≡ b
  pub labels_accepted : labels_fault A.size (take b l') ≡ 0
  pub labelled : read_labels (take b l') ≡ ls
  pub labels_behind : drop b l' ≡ drop b l

-- the outputs are as they were
pub record Unchanged (o l o' l' : List ℕ) : Type 0 where
  pub words : o' ≡ o
  pub bytes : l' ≡ l
