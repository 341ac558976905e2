-- `is_pair_blocked` meets its contract: the runs are those of the pair.
use Rattle.product.proofs.Blocking.{pair_blocked_laws}
use Rattle.product.proofs.epsilons.is_pair_blocked.Statement.{statement}
use Rattle.product.proofs.epsilons.is_pair_blocked.Tie as tie

pub is_pair_blocked_spec : {M : Type 1} → statement M
is_pair_blocked_spec =
    tie.close
    (tie.spec
    (λ c κs. search pair_blocked_laws) (λ c κs. search pair_blocked_laws) (λ c κs. search pair_blocked_laws)
    (λ c. search pair_blocked_laws))
