-- `set_leaf` meets its contract.
use Rattle.sweep.proofs.Trees.{leaf_laws}
use Rattle.sweep.proofs.uniting.set_leaf.Statement.{statement}
use Rattle.sweep.proofs.uniting.set_leaf.Tie as tie

pub set_leaf_spec : {M : Type 1} → statement M
set_leaf_spec =
    tie.close
    (tie.spec (λ c. search leaf_laws) (λ c κs. search leaf_laws) (λ c κs. search leaf_laws) (λ c. search leaf_laws) (λ c. search leaf_laws))
