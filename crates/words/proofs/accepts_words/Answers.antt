-- A sheet that passes the check is accepted.
use Rattle.std.proofs.Common.{sym}
use Rattle.sheets.proofs.Accepted.{accepted}
use Rattle.words.proofs.accepts_words.Goals as goal

pub input_kind-requires : goal.input_kind-requires
input_kind-requires c = (accepted _ (sym c.in_ok-check.ensures), tt)
