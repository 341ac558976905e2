-- A sheet that passes the check is accepted.
use Rattle.std.proofs.Common.{sym, ◌∙◌}
use Rattle.sheets.proofs.Accepted.{accepted}
use Rattle.words.proofs.accepts_text.Goals as goal

pub input_kind-requires : goal.input_kind-requires
input_kind-requires c = (accepted _ (sym c.in_ok-check.ensures), sym c.is_wellformed.ensures ∙ c.if-is_wellformed.true)
