-- For inner contracts. The code points that the code reads.
use Rattle.std.specs.Prelude.{ℕ, List, []}
use Rattle.utf8.specs.Utf8.{Decoded, malformed, points}

-- the code points of a text that is not malformed
unfoldable pub points_of : Decoded → List ℕ
points_of malformed = []
points_of (points w) = w
