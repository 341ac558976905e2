-- The arrays that `union_in` left, or the value as it was.
use Rattle.std.proofs.Common.{rules}
use Rattle.dsu.proofs.Joining.{union_refused, union_done}
use Rattle.dsu.proofs.DSU.union.Goals as goal

pub returns-in-Ok : goal.returns-in-Ok
returns-in-Ok c = search (union_done, rules)

pub returns-in-Err : goal.returns-in-Err
returns-in-Err c = search (union_refused, rules)
