-- A sheet that passes the check is accepted.
use Rattle.std.proofs.Common.{sym}
use Rattle.sheets.proofs.Accepted.{accepted}
use Rattle.nondeterminism.proofs.is_nfa.Goals as goal

pub is_nfa_between-requires : goal.is_nfa_between-requires
is_nfa_between-requires c = accepted _ (sym c.in_ok-check.ensures)
