-- `visit_pair` meets its contract: the runs are those of the pair at `i`.
use Rattle.product.proofs.Finding.{visit_laws}
use Rattle.product.proofs.exploring.visit_pair.Statement.{statement}
use Rattle.product.proofs.exploring.visit_pair.Tie as tie

pub visit_pair_spec : {M : Type 1} → statement M
visit_pair_spec =
    tie.close
    (tie.spec
    (λ c. search visit_laws) (λ c. search visit_laws) (λ c κs. search visit_laws) (λ c κs. search visit_laws)
    (λ c κs. search visit_laws) (λ c. search visit_laws) (λ c. search visit_laws) (λ c. search visit_laws))
