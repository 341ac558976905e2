-- `is_nfa_run` meets its contract: the three tests are those of the definition.
use Rattle.nondeterminism.proofs.Runs.{nfa_laws}
use Rattle.nondeterminism.proofs.is_nfa_run.Statement.{statement}
use Rattle.nondeterminism.proofs.is_nfa_run.Tie as tie

pub is_nfa_run_spec : {M : Type 1} → statement M
is_nfa_run_spec =
    tie.close
    (tie.spec (λ c κs. search nfa_laws) (λ c. search nfa_laws) (λ c κs. search nfa_laws) (λ c. search nfa_laws)
    (λ c κs. search nfa_laws) (λ c. search nfa_laws) (λ c. search nfa_laws))
