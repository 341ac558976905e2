-- `is_nfa_between` meets its contract: the tables are those of the sheet.
use Rattle.nondeterminism.proofs.States.{inputs_laws}
use Rattle.nondeterminism.proofs.is_nfa_between.Statement.{statement}
use Rattle.nondeterminism.proofs.is_nfa_between.Tie as tie

pub is_nfa_between_spec : {M : Type 1} → statement M
is_nfa_between_spec =
    tie.close
    (tie.spec (λ c. search inputs_laws) (λ c κs. search inputs_laws) (λ c. search inputs_laws) (λ c. search inputs_laws)
    (λ c κs. search inputs_laws) (λ c. search inputs_laws))
