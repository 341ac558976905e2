-- The sets with the parents that `find_from` left.
use Rattle.std.proofs.Common.{rules}
use Rattle.dsu.proofs.Finding.{find_made}
use Rattle.dsu.proofs.DSU.find.Goals as goal

pub returns : goal.returns
returns c = search (find_made, rules)
