-- For inner contracts. What the search for the holes of a sheet is given.
use Rattle.std.specs.Prelude.{ℕ, List, ◌≡◌, length}
use Rattle.sheets.specs.inner.Accepted.{Accepted}
use Rattle.sheets.specs.inner.Runs.{Indexed}

-- an accepted sheet, where its runs begin, and room for the holes of a run
pub record HolesInputs (s starts holes : List ℕ) : Type 0 where
  pub accepted : Accepted s
  pub indexed : Indexed s starts
  pub long : length holes ≡ 4098
