-- A sheet that passes the check is accepted.
use Rattle.std.proofs.Common.{sym, arith}
use Rattle.sheets.proofs.Accepted.{accepted}
use Rattle.lookups.proofs.count.Goals as goal

pub determinize_counted-made-requires : goal.determinize_counted-made-requires
determinize_counted-made-requires c = (accepted _ (sym c.in-Ok.ensures), omega arith)
