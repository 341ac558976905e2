-- For inner contracts. What the inner functions ask and give.
use Rattle.std.specs.Prelude.{ℕ, ◌≤◌, List, ◌≡◌, length, take, Option, Some, None, Result, Ok, Err}
use Rattle.grammar.specs.Grammar.{ReadResult, nothing, found, Mark, mark}
use Rattle.refusal.specs.Answer.{Answer, refused, given}
use Rattle.refusal.specs.Number.{number_of}
use Rattle.refusal.specs.declared.Refusal.{Refusal}
use Rattle.sheets.specs.Sheet.{write}
use Rattle.parser.specs.Pattern.{Reading}
use Rattle.parser.specs.declared.Parsed.{Parsed}
use Rattle.equality.specs.declared.Verdict.{Verdict}
use Rattle.equality.specs.declared.Verdict.TheVariants.{Same, Different, Refused}
use Rattle.verdict_line.specs.Line.{same_line, differ_line, refused_line}
use Rattle.equality.specs.Equality.{word_size}

-- the place of the second text as what the grammar finds
abbrev pub second_of : Option ℕ → ReadResult Mark
second_of (Some n) = found mark n
second_of None = nothing

-- the sheet of the automaton that was read stands at the front of o
pub data SheetRead : Answer Reading → List ℕ → Result Parsed Refusal → Type 0 where
  refuses : {o : List ℕ} (r : Refusal) → SheetRead (refused (number_of r)) o (Err r)
  reads : {o : List ℕ} (r : Reading) (p : Parsed) → p.words ≤ length o → take p.words o ≡ write r.pattern.automaton → SheetRead (given r) o (Ok p)

-- the line of a verdict, with the word at the front of w
unfoldable pub verdict_line : Verdict → List ℕ → List ℕ
verdict_line (Same joins) w = same_line joins
verdict_line (Different n) w = differ_line (take n w)
verdict_line (Refused r) w = refused_line (number_of r)

-- a verdict whose line has at most 5,617 bytes
unfoldable pub Short : Verdict → List ℕ → Type 0
Short (Same joins) w = joins ≤ 512
Short (Different n) w = (n ≤ word_size) × (n ≤ length w)
Short (Refused r) w = 0 ≤ length w
