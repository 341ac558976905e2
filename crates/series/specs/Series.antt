-- The test of a ring series against a pattern, as a function of the bytes of a sheet and a series on two lines: unreadable, or the
-- answer of acceptance.
use Rattle.std.specs.Prelude.{ℕ, cond, List, eqb, leb, ltb, length, Option, Some, None, Result, Ok, Err}
use Rattle.refusal.specs.Answer.{Answer, refused, given}
use Rattle.refusal.specs.Number.{input_number}
use Rattle.replay.specs.Lines.{answer, line_at}
use Rattle.replay.specs.declared.Numbers.{Numbers}
use Rattle.replay.specs.declared.LineFault.{LineFault}
use Rattle.words.specs.Acceptance.{accepts_words_answer}
use Rattle.series.specs.declared.tested.TestFault.{TestFault}
use Rattle.series.specs.declared.tested.TestFault.TheVariants.{Unreadable, Refused}

-- the answer that a value of the code stands for
abbrev pub tested_of : Result ℕ TestFault → Option (Answer ℕ)
tested_of (Ok k) = Some (given k)
tested_of (Err Unreadable) = None
tested_of (Err (Refused r)) = Some (refused (input_number r))

-- the answer where the series was read on the last line
abbrev pub on_series : List ℕ → List ℕ → List ℕ → Result Numbers LineFault → Option (Answer ℕ)
on_series s sheet series (Ok l) = cond (eqb l.to (length s)) (Some (accepts_words_answer sheet series)) None
on_series s sheet series (Err f) = None

-- the series is the line at a place
unfoldable pub with_series : List ℕ → ℕ → List ℕ → Option (Answer ℕ)
with_series s at sheet = on_series s sheet (line_at s at).numbers (answer 32768 at (line_at s at))

-- the answer where the sheet was read on a line, and another line begins behind it
abbrev pub on_sheet : List ℕ → List ℕ → Result Numbers LineFault → Option (Answer ℕ)
on_sheet s sheet (Ok l) = cond (leb (length s) l.to) None (with_series s l.to sheet)
on_sheet s sheet (Err f) = None

-- the sheet is the first line
unfoldable pub series_of : List ℕ → Option (Answer ℕ)
series_of s = cond (ltb 65536 (length s)) None (on_sheet s (line_at s 0).numbers (answer 10500 0 (line_at s 0)))
