-- A ring series with an outer mark, and whether an automaton accepts it (document 02, M-103). The mark is 0 where the last ring is whole and 1 where it is
-- unfinished.
use Rattle.std.specs.Prelude.{ℕ, zero, suc, cond, ltb}
use mathlib.Core.List.{List, drop_last}
use Rattle.refusal.specs.Answer.{Answer, refused, given}
use Rattle.sheets.specs.Checked.{sheet_first}
use Rattle.sheets.specs.Sheet.{read}
use Rattle.words.specs.Simulation.{kind}

-- the rings of a series that are matched: an unfinished last ring is left off; an empty series stays empty
unfoldable pub whole_rings : ℕ → List ℕ → List ℕ
whole_rings zero w = w
whole_rings (suc m) w = drop_last w

-- 34 where a mark is over 1, or else the answer a
abbrev pub mark_first : {X : Type 0} → ℕ → Answer X → Answer X
mark_first mark a = cond (ltb 1 mark) (refused 34) a

-- a series is answered with the accept word of its whole rings
unfoldable pub accepts_series_answer : List ℕ → List ℕ → ℕ → Answer ℕ
accepts_series_answer s w mark = sheet_first s (mark_first mark (given (kind (read s) (whole_rings mark w))))
