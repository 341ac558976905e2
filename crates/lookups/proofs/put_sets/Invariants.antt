-- The sets from `k` on are left.
use Rattle.std.proofs.Common.{◌-◌}
use Rattle.stores.proofs.Left.{Left}
use Rattle.lookups.specs.Lookups.{to_sets}
use Rattle.lookups.proofs.put_sets.Given as goal

abbrev pub invariant-loop-k : goal.invariant-loop-k
invariant-loop-k l = Left l.fn.sheet l.at (to_sets 1 254) l.sheet l.end (to_sets l.k (255 - l.k))
