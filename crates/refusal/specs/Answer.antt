-- The answer of an operation on the model: refused with document 01's number, or given.
use Rattle.std.specs.Prelude.{ℕ}

pub data Answer (X : Type 0) : Type 0 where
  refused : ℕ → Answer X
  given : X → Answer X
