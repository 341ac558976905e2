-- Determinizing sheets: the sheet of a finished table, and the answers with the outputs.
use Rattle.std.specs.Prelude.{ℕ, List}
use Rattle.automata.specs.Automaton.{Automaton}
use Rattle.labels.specs.Forms.{numbered_labels}
use Rattle.output.specs.Output.{Pattern, room_first}
use Rattle.refusal.specs.Answer.{Answer, refused, given}
use Rattle.sheets.specs.Checked.{sheet_first}
use Rattle.sheets.specs.Sheet.{read}
use Rattle.determinize.specs.Determinize.{determinize}
use Rattle.automata.specs.WellFormed.{last_symbol}

-- the result with the labels D0, D1 and so on, the sink's too
unfoldable pub subset_pattern : Answer Automaton → Answer Pattern
subset_pattern (refused n) = refused n
subset_pattern (given D) = given (record { automaton = D; labels = numbered_labels D.size })

-- determinizing a sheet s into the outputs o and l: 20, then the sheet's faults, then 21 and 22
unfoldable pub determinize_answer : List ℕ → List ℕ → List ℕ → Answer Pattern
determinize_answer s o l = room_first o l (sheet_first s (subset_pattern (determinize 0 last_symbol (read s))))
