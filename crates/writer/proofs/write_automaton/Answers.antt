-- A sheet that passes the check is accepted.
use Rattle.std.proofs.Common.{sym, arith}
use Rattle.sheets.proofs.Accepted.{accepted}
use Rattle.writer.proofs.write_automaton.Goals as goal

pub write_sheet-requires : goal.write_sheet-requires
write_sheet-requires c = (accepted _ (sym c.in_ok-check.ensures), omega arith)
