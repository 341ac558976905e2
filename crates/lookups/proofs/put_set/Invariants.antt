-- The states from `q` on are left.
use Rattle.std.proofs.Common.{◌-◌}
use Rattle.stores.proofs.Left.{Left}
use Rattle.lookups.specs.Lookups.{to_states, to_set}
use Rattle.lookups.proofs.put_set.Given as goal

abbrev pub invariant-loop-q : goal.invariant-loop-q
invariant-loop-q l = Left l.fn.sheet l.at (to_set l.k) l.sheet l.end (to_states l.symbol l.q l.left (64 - l.q))
