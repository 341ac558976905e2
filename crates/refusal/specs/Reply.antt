-- The reply of a C function: 0 or the refusal's number, then the cells lent for numbers and the memory lent, as they are afterwards.
use Rattle.std.specs.Prelude.{ℕ}
use Rattle.refusal.specs.Answer.{Answer, refused, given}
use Rattle.refusal.specs.Outcome.{Outcome}

pub record Reply (C M : Type 0) : Type 0 where
  pub code : ℕ
  pub cells : C
  pub memory : M

-- with the memory m: the cells are as they were, c, after a refusal, and hold what is given else
abbrev pub reply_with : {C M : Type 0} → C → Answer C → M → Reply C M
reply_with c (refused n) m = record { code = n; cells = c; memory = m }
reply_with c (given x) m = record { code = 0; cells = x; memory = m }

-- the reply to an outcome
abbrev pub reply : {C M : Type 0} → C → Outcome C M → Reply C M
reply c r = reply_with c r.answer r.memory
