-- The outcome of a call: its answer, and what is lent to it, as that is afterwards. One rule for all calls.
use Rattle.std.specs.Prelude.{ℕ, cond, List, ltb, length}
use Rattle.refusal.specs.Answer.{Answer, refused, given}

pub record Outcome (X M : Type 0) : Type 0 where
  pub answer : Answer X
  pub memory : M

-- a refusal leaves the memory m as it was; a result is stored in it, and the call answers its summary
abbrev pub outcome : {P X M : Type 0} → (P → X) → (M → P → M) → M → Answer P → Outcome X M
outcome summary store m (refused n) = record { answer = refused n; memory = m }
outcome summary store m (given p) = record { answer = given (summary p); memory = store m p }

-- 20 where the lent list o is shorter than its fixed size n, or else the answer a
abbrev pub length_first : {X : Type 0} → ℕ → List ℕ → Answer X → Answer X
length_first n o a = cond (ltb (length o) n) (refused 20) a
