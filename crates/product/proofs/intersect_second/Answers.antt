-- A sheet that passes the check is accepted.
use Rattle.std.proofs.Common.{sym}
use Rattle.sheets.proofs.Accepted.{accepted}
use Rattle.product.proofs.intersect_second.Goals as goal

pub intersect_accepted-requires : goal.intersect_accepted-requires
intersect_accepted-requires c = (c.requires.0, accepted _ (sym c.in_ok-check.ensures), c.requires.1, c.requires.2)
