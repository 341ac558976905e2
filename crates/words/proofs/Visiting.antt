-- Going through the members of a set in ascending order, as a loop over `next_member` does.
use Prim.Native.Nat.{ℕ, ◌+◌, ◌-◌, ◌<◌}
use mathlib.Core.List.{List}
use mathlib.Core.Path.{◌≡◌}
use native.Mathlib.Omega.{arith}
use Rattle.sets.specs.inner.Members.{next_member}
use Rattle.sets.specs.inner.BitSet.{set_at}
use Rattle.sets.proofs.BitSet.{at_canon}
use Rattle.sets.proofs.Members.{visit_here, next_above}

-- a member that a visit stands at is found again from itself
pub member_here : (cur : List ℕ) (p q : ℕ) → q ≡ next_member (set_at cur 0) p → q ≡ next_member (set_at cur 0) q
member_here cur p q e = visit_here (set_at cur 0) (at_canon cur 0) p q e

pub member_later : (cur : List ℕ) (q x : ℕ) → q < 256 → x ≡ next_member (set_at cur 0) (q + 1) → 256 - x < 256 - q
member_later cur q x l e = let a = next_above (set_at cur 0) (at_canon cur 0) (q + 1) (omega arith) in omega arith
