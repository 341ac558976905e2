-- Sizes grow on the way.
use Rattle.std.proofs.Common.{◌-◌, get_or}
use Rattle.dsu.proofs.+find_in.Given as goal

abbrev pub decreases-find_in : goal.decreases-find_in
decreases-find_in l = l.n - get_or l.size.now l.x 0
