-- The cases of a list, read one after the other and counted.
use Rattle.std.specs.Prelude.{ℕ, ◌+◌, ◌-◌, ◌^◌, ◌<◌, Bool, cond, Option, Some, None, List, get_or}
use Rattle.std.specs.Result.{result_ok}
use Rattle.replay.specs.declared.Numbers.{Numbers}
use Rattle.replay.specs.declared.Tally.{Tally}
use Rattle.replay.specs.Lines.{answer, line_at}

-- the case at a place of a text, where there is room for so many numbers, if its line can be read
unfoldable pub case_at : ℕ → List ℕ → ℕ → Option Numbers
case_at room s at = result_ok (answer room at (line_at s at))

-- how many numbers a case has: none where it could not be read
abbrev pub count_of : Option Numbers → ℕ
count_of (Some l) = l.count
count_of None = 0

-- the place behind a case at a place: the place itself where it could not be read
abbrev pub behind_case : ℕ → Option Numbers → ℕ
behind_case at (Some l) = l.to
behind_case at None = at

-- so many cases are left from a place on, and none is counted
abbrev pub fresh_tally : ℕ → ℕ → Tally
fresh_tally left at = record { left = left; at = at; agreed = 0; differed = 0 }

-- before the first case: the first line's number says how many there are
unfoldable pub begun : List ℕ → Tally
begun s = fresh_tally (get_or (line_at s 0).numbers 0 0) (behind_case 0 (case_at 1 s 0))

-- the counts stay words while the cases that are left are counted
abbrev pub Bounded : Tally → Type 0
Bounded t = t.agreed + t.differed + t.left < 2 ^ 64

-- one case more, before the place to, which agreed or differed
unfoldable pub tallied : Tally → ℕ → Bool → Tally
tallied t to b = record { left = t.left - 1; at = to; agreed = cond b (t.agreed + 1) t.agreed; differed = cond b t.differed (t.differed + 1) }
