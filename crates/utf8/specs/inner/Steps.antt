-- For inner contracts. What the code answers at a place of a text.
use Rattle.std.specs.Prelude.{ℕ, ◌+◌, Bool, true, false, List, drop}
use Rattle.utf8.specs.declared.Step.{Step}
use Rattle.utf8.specs.declared.Step.TheVariants.{Point, End, Malformed}
use Rattle.utf8.specs.Utf8.{Front, front, Decoded, decode, end, fault, point, malformed, points}

abbrev pub is_points : Decoded → Bool
is_points malformed = false
is_points (points ps) = true

unfoldable pub wellformed : List ℕ → Bool
wellformed t = is_points (decode t)

-- the answer of `next` for what stands at the place at
abbrev pub placed : ℕ → Front → Step
placed at end = End
placed at fault = Malformed
placed at (point x n) = Point x (at + n)

-- what stands at the place at of a text
unfoldable pub step_at : List ℕ → ℕ → Step
step_at t at = placed at (front (drop at t))
