-- The answer of the check as a number, and the sheet's faults before any other answer.
use Rattle.std.specs.Prelude.{ℕ, cond, List, eqb}
use Rattle.refusal.specs.Answer.{Answer, refused}
pub use Rattle.refusal.specs.Checked.{checked_number}
use Rattle.sheets.specs.Fault.{fault}

-- the fault of the sheet s, or else the answer a
unfoldable pub sheet_first : {X : Type 0} → List ℕ → Answer X → Answer X
sheet_first s a = cond (eqb (fault s) 0) a (refused (fault s))
