-- What a call with two outputs leaves at their fronts, from its contract. Assumes nothing.
use Prim.Native.Nat.{◌≤◌}
use mathlib.Core.Path.{◌≡◌, ◌∙◌, ap}
use native.Mathlib.Omega.{arith}
use lib.ListN.{length, take}
use lib.Seq.{sets}
use Rattle.automata.specs.WellFormed.{WellFormed, Fits}
use Rattle.labels.specs.Labels.{AllLabels, write_labels}
use Rattle.labels.proofs.Labels.{size_write}
use Rattle.output.specs.Output.{Pattern, outputs, room_first}
use Rattle.output.proofs.Left.{front_written, room_first_lem}
use Rattle.refusal.specs.Answer.{Answer, given}
use Rattle.ringmatch.specs.Reply.{outputs_reply, reply_to_pattern}
use Rattle.sheets.specs.Sheet.{write}
use Rattle.sheets.proofs.Meaning.{write_room}
use Rattle.crossed.specs.Calls.{OutputsMemory, sheet_of, labels_of}

-- the memory m of a call whose answer, behind 20, is a, and a is the pattern P
module _ (m : OutputsMemory) (a : Answer Pattern) (call : m.after ≡ reply_to_pattern m.sheet m.labels m.words m.bytes (room_first m.sheet m.labels a))
    (P : Pattern) (is : a ≡ given P) where
  left : m.after ≡ outputs_reply 0 (length (write P.automaton)) (length (write_labels P.labels)) (sets m.sheet 0 (write P.automaton)) (sets m.labels 0 (write_labels P.labels))
  unfolding outputs
  left = call ∙ ap (reply_to_pattern m.sheet m.labels m.words m.bytes) (room_first_lem m.sheet m.labels a m.room ∙ is)

  -- nothing is refused
  pub code_left : m.after.code ≡ 0
  code_left = ap (λ x. x.code) left

  -- the front of the first output is the sheet of P
  pub sheet_left : WellFormed P.automaton → Fits P.automaton → sheet_of m ≡ write P.automaton
  sheet_left w f =
      ap (λ x. take x.cells.words x.memory.sheet) left
      ∙ front_written m.sheet (write P.automaton) (omega (arith, m.room.words, write_room P.automaton w.accepts f))

  -- and that of the second are its labels
  pub labels_left : AllLabels P.labels → length P.labels ≤ 256 → labels_of m ≡ write_labels P.labels
  labels_left l h =
      ap (λ x. take x.cells.bytes x.memory.labels) left
      ∙ front_written m.labels (write_labels P.labels) (omega (arith, m.room.bytes, size_write P.labels l h))
