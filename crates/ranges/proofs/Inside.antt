-- Whether a symbol lies in a span, as a test.
use Prim.Native.Nat.{ℕ}
use mathlib.Core.Bool.{Bool, ◌&&◌}
use lib.Dec.{leb}
use Rattle.ranges.specs.Span.{Span}

-- as a test
unfoldable pub inside : ℕ → Span → Bool
inside x s = leb s.first x && leb x s.last
