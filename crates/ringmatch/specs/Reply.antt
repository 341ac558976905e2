-- The replies of the C functions: what each kind of function has for cells and memory, and its reply to an answer. After a refusal cells and memory
-- are unchanged.
use Rattle.std.specs.Prelude.{ℕ, Bool, true, false, List}
use Rattle.equality.specs.declared.Verdict.{Verdict}
use Rattle.equality.specs.declared.Verdict.TheVariants.{Same, Different, Refused}
use Rattle.output.specs.Output.{Pattern, Lengths, Outputs, outputs}
use Rattle.parser.specs.Parsed.{ReadLengths, parsed}
use Rattle.parser.specs.Pattern.{Reading}
use Rattle.refusal.specs.Answer.{Answer, refused, given}
use Rattle.refusal.specs.Number.{number_of}
use Rattle.refusal.specs.Outcome.{Outcome, outcome}
use Rattle.refusal.specs.Reply.{Reply, reply}
use Rattle.writer.specs.Text.{write_outcome}

-- of a function that answers one number: its cell, and no memory
abbrev pub number_reply : ℕ → ℕ → Reply ℕ (Unit {0})
number_reply code answer = record { code = code; cells = answer; memory = tt }

abbrev pub nothing_stored : {P : Type 0} → Unit {0} → P → Unit {0}
nothing_stored m p = m

-- old is what the cell held
abbrev pub reply_to_number : ℕ → Answer ℕ → Reply ℕ (Unit {0})
reply_to_number old a = reply old (outcome (λ k. k) nothing_stored tt a)

-- a yes is 1, a no 0
abbrev pub bool_word : Bool → ℕ
bool_word true = 1
bool_word false = 0

abbrev pub reply_to_bool : ℕ → Answer Bool → Reply ℕ (Unit {0})
reply_to_bool old a = reply old (outcome bool_word nothing_stored tt a)

-- of a function with two outputs: cells for their lengths
abbrev pub outputs_reply : ℕ → ℕ → ℕ → List ℕ → List ℕ → Reply Lengths Outputs
outputs_reply code words bytes o l = record { code = code; cells = record { words = words; bytes = bytes }; memory = record { sheet = o; labels = l } }

-- for what was lent for the outputs and for their lengths
abbrev pub reply_to_pattern : List ℕ → List ℕ → ℕ → ℕ → Answer Pattern → Reply Lengths Outputs
reply_to_pattern o l words bytes a = reply (record { words = words; bytes = bytes }) (outputs o l a)

-- of the pattern reader: a cell for the number of bytes read too
abbrev pub read_cells : ℕ → ℕ → ℕ → ReadLengths
read_cells n words bytes = record { read = n; outputs = record { words = words; bytes = bytes } }

abbrev pub reading_reply : ℕ → ℕ → ℕ → ℕ → List ℕ → List ℕ → Reply ReadLengths Outputs
reading_reply code n words bytes o l = record { code = code; cells = read_cells n words bytes; memory = record { sheet = o; labels = l } }

abbrev pub reply_to_reading : List ℕ → List ℕ → ℕ → ℕ → ℕ → Answer Reading → Reply ReadLengths Outputs
reply_to_reading o l n words bytes a = reply (read_cells n words bytes) (parsed o l a)

-- of the function that writes a text: a cell for its length
abbrev pub text_reply : ℕ → ℕ → List ℕ → Reply ℕ (List ℕ)
text_reply code bytes text = record { code = code; cells = bytes; memory = text }

-- for what was lent for the text and for its length
abbrev pub reply_to_text : List ℕ → ℕ → Answer (List ℕ) → Reply ℕ (List ℕ)
reply_to_text o bytes a = reply bytes (write_outcome o a)

-- of exact equality: 1 and the joins, or 0 and the length of the difference word
pub record VerdictCells : Type 0 where
  pub same : ℕ
  pub number : ℕ

abbrev pub verdict_cells : ℕ → ℕ → VerdictCells
verdict_cells same number = record { same = same; number = number }

abbrev pub verdict_reply : ℕ → ℕ → ℕ → List ℕ → Reply VerdictCells (List ℕ)
verdict_reply code same number word = record { code = code; cells = verdict_cells same number; memory = word }

-- the outcome of a verdict, where o is the word afterwards
abbrev pub verdict_of : Verdict → List ℕ → Outcome VerdictCells (List ℕ)
verdict_of (Same joins) o = record { answer = given (verdict_cells 1 joins); memory = o }
verdict_of (Different n) o = record { answer = given (verdict_cells 0 n); memory = o }
verdict_of (Refused r) o = record { answer = refused (number_of r); memory = o }

abbrev pub reply_to_verdict : ℕ → ℕ → Verdict → List ℕ → Reply VerdictCells (List ℕ)
reply_to_verdict same number v o = reply (verdict_cells same number) (verdict_of v o)
