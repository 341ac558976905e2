-- `add_pair` meets its contract: the runs are those of the pair at `i`.
use Rattle.product.proofs.Adding.{pair_laws}
use Rattle.product.proofs.collecting.add_pair.Statement.{statement}
use Rattle.product.proofs.collecting.add_pair.Tie as tie

pub add_pair_spec : {M : Type 1} → statement M
add_pair_spec =
    tie.close
    (tie.spec
    (λ c. search pair_laws) (λ c. search pair_laws) (λ c κs. search pair_laws) (λ c κs. search pair_laws) (λ c. search pair_laws)
    (λ c κs. search pair_laws) (λ c. search pair_laws) (λ c. search pair_laws))
