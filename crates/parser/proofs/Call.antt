-- The contract of `parse_automaton` as one of a call with two outputs: the count of bytes read is left out, so that the laws of output/Left apply.
use Rattle.std.proofs.Common.{Result, Ok, Err}
use Prim.Native.Nat.{ℕ}
use mathlib.Core.Bool.{Bool, true, false, cond}
use mathlib.Core.List.{List}
use mathlib.Core.Path.{◌≡◌, refl, sym, ◌∙◌, ap}
use native.Mathlib.Omega.{arith}
use lib.Dec.{ltb}
use lib.ListN.{length}
use Rattle.output.specs.Left.{made_number}
use Rattle.output.specs.Made.{output_of}
use Rattle.output.specs.Output.{Pattern, Lengths, Outputs, outputs, room_first}
use Rattle.output.specs.declared.Made.{Made}
use Rattle.refusal.specs.Answer.{Answer, refused, given}
use Rattle.refusal.specs.Outcome.{Outcome}
use Rattle.refusal.specs.declared.Refusal.{Refusal}
use Rattle.parser.specs.Parsed.{ReadLengths, parsed, parsed_of, parsed_number}
use Rattle.parser.specs.Pattern.{Reading}
use Rattle.parser.specs.declared.Parsed.{Parsed}

abbrev pub made_of : Result Parsed Refusal → Result Made Refusal
made_of (Ok p) = Ok (record { words = p.words; bytes = p.bytes })
made_of (Err x) = Err x

abbrev pub patterns_of : Answer Reading → Answer Pattern
patterns_of (refused n) = refused n
patterns_of (given R) = given R.pattern

abbrev output_lengths : Answer ReadLengths → Answer Lengths
output_lengths (refused n) = refused n
output_lengths (given k) = given k.outputs

abbrev outputs_of : Outcome ReadLengths Outputs → Outcome Lengths Outputs
outputs_of x = record { answer = output_lengths x.answer; memory = x.memory }

pub made_number_lem : (r : Result Parsed Refusal) → made_number (made_of r) ≡ parsed_number r
made_number_lem (Ok p) = refl
made_number_lem (Err x) = refl

made_output : (r : Result Parsed Refusal) (o l : List ℕ) → outputs_of (parsed_of r o l) ≡ output_of (made_of r) o l
made_output (Ok p) o l = refl
made_output (Err x) o l = refl

parsed_outputs : (o l : List ℕ) (a : Answer Reading) → outputs_of (parsed o l a) ≡ outputs o l (patterns_of a)
unfolding parsed outputs
parsed_outputs o l (refused n) = refl
parsed_outputs o l (given R) = refl

patterns_room : (o l : List ℕ) (a : Answer Reading) → patterns_of (room_first o l a) ≡ room_first o l (patterns_of a)
unfolding room_first
patterns_room o l a = go (ltb (length o) 10500) (ltb (length l) 16642)
  where
    go : (b c : Bool) → patterns_of (cond b (refused 20) (cond c (refused 20) a)) ≡ cond b (refused 20) (cond c (refused 20) (patterns_of a))
    go true c = refl
    go false true = refl
    go false false = refl

pub made_call : (o l o' l' : List ℕ) (r : Result Parsed Refusal) (a : Answer Reading) → parsed_of r o' l' ≡ parsed o l (room_first o l a)
    → output_of (made_of r) o' l' ≡ outputs o l (room_first o l (patterns_of a))
made_call o l o' l' r a call =
    sym (made_output r o' l') ∙ ap outputs_of call ∙ parsed_outputs o l (room_first o l a) ∙ ap (outputs o l) (patterns_room o l a)

-- back from the answer without the count
pub only_refused : (k : ℕ) (a : Answer Reading) → patterns_of a ≡ refused k → a ≡ refused k
only_refused k (refused n) e = let z : n ≡ k = cc in ap refused z
only_refused k (given R) e = let z : ◌≡◌ {A = ℕ} 0 1 = cc in absurd (omega arith)

pub some_reading : (a : Answer Reading) (P : Pattern) → patterns_of a ≡ given P → (R : Reading) × (a ≡ given R)
some_reading (refused n) P e = let z : ◌≡◌ {A = ℕ} 0 1 = cc in absurd (omega arith)
some_reading (given R) P e = (R, refl)

-- the count of bytes in an answer
pub bytes_read : (o l o' l' : List ℕ) (n w b : ℕ) (R : Reading) → parsed_of (Ok (record { read = n; words = w; bytes = b })) o' l' ≡ parsed o l (given R) → n ≡ R.read
unfolding parsed
bytes_read o l o' l' n w b R e = ap (λ x. count x.answer) e
  where
    count : Answer ReadLengths → ℕ
    count (refused k) = 0
    count (given k) = k.read
