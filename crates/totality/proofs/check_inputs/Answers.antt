-- A sheet that passes the check is accepted.
use Rattle.std.proofs.Common.{sym}
use Rattle.sheets.proofs.Accepted.{accepted}
use Rattle.totality.proofs.check_inputs.Goals as goal

pub check_labels-requires : goal.check_labels-requires
check_labels-requires c = accepted _ (sym c.in_ok-check.ensures)
