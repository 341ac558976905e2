-- The links from `i` on are left.
use Rattle.std.proofs.Common.{◌-◌}
use Rattle.stores.proofs.Left.{Left}
use Rattle.lookups.specs.Lookups.{links}
use Rattle.lookups.proofs.put_links.Given as goal

abbrev pub invariant-loop-i : goal.invariant-loop-i
invariant-loop-i l = Left l.fn.sheet l.at (links 0 l.m) l.sheet l.end (links l.i (l.m - l.i))
