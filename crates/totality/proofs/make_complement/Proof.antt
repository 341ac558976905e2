-- `make_complement` meets its contract: it totalizes only if `is_nfa`.
use Rattle.totality.proofs.Made.{complement_laws}
use Rattle.totality.proofs.make_complement.Statement.{statement}
use Rattle.totality.proofs.make_complement.Tie as tie

pub make_complement_spec : {M : Type 1} → statement M
make_complement_spec =
    tie.close
    (tie.spec (λ c κs. search complement_laws) (λ c κs. search complement_laws) (λ c. search complement_laws)
    (λ c. search complement_laws) (λ c. search complement_laws) (λ c κs. search complement_laws) (λ c. search complement_laws)
    (λ c. search complement_laws) (λ c. search complement_laws))
