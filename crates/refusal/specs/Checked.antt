-- The number of what a check answers.
use Rattle.std.specs.Prelude.{ℕ, Result, Ok, Err}
use Rattle.refusal.specs.declared.InputRefusal.{InputRefusal}
use Rattle.refusal.specs.Number.{input_number}

-- 0, or the refusal's number
abbrev pub checked_number : Result (Unit {0}) InputRefusal → ℕ
checked_number (Ok _) = 0
checked_number (Err r) = input_number r
