-- What the C functions leave that write a text and read it back.
use Rattle.std.specs.Prelude.{ℕ, List, ◌↔◌, ◌≡◌, take}
use Rattle.automata.specs.Automaton.{Accepts}
use Rattle.output.specs.Output.{Pattern, Outputs, read_pattern}
use Rattle.parser.specs.Parsed.{ReadLengths}
use Rattle.refusal.specs.Reply.{Reply}
use Rattle.writer.specs.ReadBack.{ReadBack}

-- the pattern that the reader left in its outputs
abbrev pub pattern_left : Reply ReadLengths Outputs → Pattern
pattern_left r = read_pattern (take r.cells.outputs.words r.memory.sheet) (take r.cells.outputs.bytes r.memory.labels)

-- r is a reply of the pattern reader to a text of n bytes that was written for the sheet s with the labels b: nothing is refused, the whole text is read,
-- and the outputs hold the written part of the pattern under its labels, which accepts the same words
pub record ReaderReply (s b : List ℕ) (n : ℕ) (r : Reply ReadLengths Outputs) : Type 0 where
  pub code : r.code ≡ 0
  pub whole : r.cells.read ≡ n
  pub states : ReadBack (read_pattern s b) (pattern_left r)
  pub words : (w : List ℕ) → Accepts (pattern_left r).automaton w ↔ Accepts (read_pattern s b).automaton w
