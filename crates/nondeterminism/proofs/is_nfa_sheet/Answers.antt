-- By the laws of the loop over states.
use Rattle.nondeterminism.proofs.States.{sheet_laws}
use Rattle.nondeterminism.proofs.is_nfa_sheet.Goals as goal

pub run-requires : goal.run-requires
run-requires c = search sheet_laws

pub is_nfa_run-requires : goal.is_nfa_run-requires
is_nfa_run-requires c = search sheet_laws
