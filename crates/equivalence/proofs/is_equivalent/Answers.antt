-- Sheets that pass the check are accepted.
use Rattle.std.proofs.Common.{sym}
use Rattle.sheets.proofs.Accepted.{accepted}
use Rattle.equivalence.proofs.is_equivalent.Goals as goal

pub walk-requires : goal.walk-requires
walk-requires c = (accepted _ (sym c.in_ok-check.ensures), accepted _ (sym c.in_ok-check-2.ensures))
