-- A sheet that passes the check is accepted.
use Rattle.std.proofs.Common.{sym}
use Rattle.sheets.proofs.Accepted.{accepted}
use Rattle.emptiness.proofs.has_reachable_accepting_state.Goals as goal

pub reaches_accepting-requires : goal.reaches_accepting-requires
reaches_accepting-requires c = accepted _ (sym c.in_ok-check.ensures)
