-- Cases of operations: the inputs, then the refusal's number, or 0 and the sheet and the labels of the result as lists.
use Rattle.std.specs.Borrow.{Bor, MutBor}
use Rattle.std.specs.Prelude.{◌≡◌, ℕ, ◌+◌, Bool, false, cond, Result, List, eqb, leb, ltb, length, get_or, take, replicate}
use Rattle.determinize.specs.Sheets.{determinize_answer}
use Rattle.epsilon.specs.Eliminate.{eliminate_answer}
use Rattle.labels.specs.Labels.{same_label}
use Rattle.output.specs.declared.Made.{Made}
use Rattle.output.specs.Made.{output_of}
use Rattle.output.specs.Output.{Pattern, Lengths, Outputs, outputs}
use Rattle.parser.specs.Parsed.{ReadLengths, parsed}
use Rattle.parser.specs.Pattern.{parse_answer}
use Rattle.product.specs.Product.{intersection_answer}
use Rattle.refusal.specs.declared.Refusal.{Refusal}
use Rattle.refusal.specs.Answer.{Answer, refused, given}
use Rattle.refusal.specs.Outcome.{Outcome}
use Rattle.replay.specs.Cases.{list_at, is_last}
use Rattle.totality.specs.Answers.{totalize_answer, complement_answer}
use Rattle.replay_all.specs.Parts.{behind_list, are_bytes}

-- the words and the bytes stand in the case as two lists from the place on, and nothing behind them
unfoldable pub is_listed : List ℕ → ℕ → List ℕ → List ℕ → Bool
is_listed s at ws bs =
    cond (eqb (behind_list s (behind_list s at)) (length s))
    (cond (are_bytes 16642 (list_at s (behind_list s at)))
    (cond (same_label (list_at s at) ws) (same_label (list_at s (behind_list s at)) bs) false)
    false)
    false

-- the same behind a 0
unfoldable pub is_built : List ℕ → ℕ → List ℕ → List ℕ → Bool
is_built s at ws bs = cond (leb (length s) at) false (cond (eqb (get_or s at 0) 0) (is_listed s (at + 1) ws bs) false)

-- the answer of an operation with its outputs ws and bs stands in the case from the place on
unfoldable pub is_answer : List ℕ → ℕ → Answer Lengths → List ℕ → List ℕ → Bool
is_answer s at (refused n) ws bs = is_last s at n
is_answer s at (given l) ws bs =
    cond (ltb (length ws) l.words) false
    (cond (ltb (length bs) l.bytes) false (is_built s at (take l.words ws) (take l.bytes bs)))

abbrev pub is_outcome : List ℕ → ℕ → Outcome Lengths Outputs → Bool
is_outcome s at o = is_answer s at o.answer o.memory.sheet o.memory.labels

-- the outputs that are lent
abbrev pub words : List ℕ
words = replicate 10500 0

abbrev pub bytes : List ℕ
bytes = replicate 16642 0

-- a sheet, then the outcome of determinizing it
unfoldable pub determinize_case : List ℕ → Bool
determinize_case s = is_outcome s (behind_list s 0) (outputs words bytes (determinize_answer (list_at s 0) words bytes))

-- two sheets, then the outcome of their product
unfoldable pub product_case : List ℕ → Bool
product_case s =
    is_outcome s (behind_list s (behind_list s 0)) (outputs words bytes (intersection_answer (list_at s 0) (list_at s (behind_list s 0)) words bytes))

-- an operation that keeps labels: what it answers for a sheet, its labels and the outputs that are lent
abbrev pub Operation : Type 0
Operation = List ℕ → List ℕ → List ℕ → List ℕ → Answer Pattern

abbrev pub Totalize : Operation
Totalize = totalize_answer 0 4294967295

abbrev pub Complement : Operation
Complement = complement_answer 0 4294967295

abbrev pub EpsilonEliminate : Operation
EpsilonEliminate = eliminate_answer

-- each call of a function whose calls meet `post` has the outcome of the operation
abbrev pub Performs : (Bor (List ℕ) → Bor (List ℕ) → MutBor (List ℕ) → MutBor (List ℕ) → Result Made Refusal → MutBor (List ℕ) → MutBor (List ℕ) → Type 0) → Operation → Type 0
Performs post op =
    (s b : Bor (List ℕ)) (o l : MutBor (List ℕ)) (r : Result Made Refusal) (o' l' : MutBor (List ℕ)) → post s b o l r o' l'
    → output_of r o'.now l'.now ≡ outputs o.now l.now (op s.now b.now o.now l.now)

-- a sheet, its labels, then the outcome of the operation
unfoldable pub operation_case : Operation → List ℕ → Bool
operation_case o s =
    cond (are_bytes 16642 (list_at s (behind_list s 0)))
    (is_outcome s (behind_list s (behind_list s 0)) (outputs words bytes (o (list_at s 0) (list_at s (behind_list s 0)) words bytes)))
    false

-- the answer of the pattern reader with its outputs ws and bs stands in the case from the place on: behind the 0 the number of bytes read
unfoldable pub is_read : List ℕ → ℕ → Answer ReadLengths → List ℕ → List ℕ → Bool
is_read s at (refused n) ws bs = is_last s at n
is_read s at (given l) ws bs =
    cond (leb (length s) (at + 1)) false
    (cond (eqb (get_or s at 0) 0)
    (cond (eqb (get_or s (at + 1) 0) l.read)
    (cond (ltb (length ws) l.outputs.words) false
    (cond (ltb (length bs) l.outputs.bytes) false (is_listed s (at + 2) (take l.outputs.words ws) (take l.outputs.bytes bs))))
    false)
    false)

abbrev pub is_reading : List ℕ → ℕ → Outcome ReadLengths Outputs → Bool
is_reading s at o = is_read s at o.answer o.memory.sheet o.memory.labels

-- a text, then the outcome of reading it
unfoldable pub parse_case : List ℕ → Bool
parse_case s =
    cond (are_bytes 4096 (list_at s 0))
    (is_reading s (behind_list s 0) (parsed words bytes (parse_answer (list_at s 0) words bytes)))
    false
