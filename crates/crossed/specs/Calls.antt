-- The C functions that demand 3 speaks of. Each definition is the `ensures` of one function of crate `ringmatch`, over the lent memory as lists and
-- numbers, before the call and after it; proofs/Contracts holds each to what a caller of that function learns.
use Rattle.std.specs.Prelude.{ℕ, ◌≤◌, List, ◌≡◌, length, take}
use Rattle.equality.specs.Equality.{word_size}
use Rattle.output.specs.Left.{Room}
use Rattle.output.specs.Output.{Lengths, Outputs}
use Rattle.refusal.specs.Reply.{Reply}
use Rattle.ringmatch.specs.Calls.{determinize_reply, complement_reply, intersection_reply, reachable_reply, EqualityReply}
use Rattle.ringmatch.specs.Reply.{VerdictCells}

-- the memory of `ringmatch_equality`: what is lent for the difference word, 510 words or more, and for the two numbers; then what is there after the call
pub record Difference : Type 0 where
  pub word : List ℕ
  pub same : ℕ
  pub number : ℕ
  pub room : word_size ≤ length word
  pub after : Reply VerdictCells (List ℕ)

-- `ringmatch_equality` of the sheets a and b
abbrev pub EqualityCall : List ℕ → List ℕ → Difference → Type 0
EqualityCall a b m = EqualityReply a b m.word m.same m.number m.after

-- the memory of a call with two outputs: what is lent for them, of document 01's sizes, and for their lengths; then what is there after the call
pub record OutputsMemory : Type 0 where
  pub sheet : List ℕ
  pub labels : List ℕ
  pub words : ℕ
  pub bytes : ℕ
  pub room : Room sheet labels
  pub after : Reply Lengths Outputs

-- the sheet and the labels that the call wrote: as much of the fronts of its outputs as it answers
abbrev pub sheet_of : OutputsMemory → List ℕ
sheet_of m = take m.after.cells.words m.after.memory.sheet

abbrev pub labels_of : OutputsMemory → List ℕ
labels_of m = take m.after.cells.bytes m.after.memory.labels

-- `ringmatch_determinize` of the sheet s
abbrev pub DeterminizeCall : List ℕ → OutputsMemory → Type 0
DeterminizeCall s m = m.after ≡ determinize_reply s m.sheet m.labels m.words m.bytes

-- `ringmatch_complement` of the sheet s with the labels b
abbrev pub ComplementCall : List ℕ → List ℕ → OutputsMemory → Type 0
ComplementCall s b m = m.after ≡ complement_reply s b m.sheet m.labels m.words m.bytes

-- `ringmatch_intersection` of the sheets s and t
abbrev pub IntersectionCall : List ℕ → List ℕ → OutputsMemory → Type 0
IntersectionCall s t m = m.after ≡ intersection_reply s t m.sheet m.labels m.words m.bytes

-- the memory of a question: what is lent for its answer, and what is there after the call
pub record Question : Type 0 where
  pub answer : ℕ
  pub after : Reply ℕ (Unit {0})

-- `ringmatch_has_reachable_accepting_state` of the sheet s
abbrev pub ReachableCall : List ℕ → Question → Type 0
ReachableCall s m = m.after ≡ reachable_reply s m.answer
