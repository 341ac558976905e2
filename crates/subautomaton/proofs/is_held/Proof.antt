-- `is_held` meets its contract: the number first, then acceptance.
use Rattle.subautomaton.proofs.Matching.{held_laws}
use Rattle.subautomaton.proofs.is_held.Statement.{statement}
use Rattle.subautomaton.proofs.is_held.Tie as tie

pub is_held_spec : {M : Type 1} → statement M
is_held_spec =
    tie.close
    (tie.spec (λ c. search held_laws) (λ c. search held_laws) (λ c. search held_laws) (λ c. search held_laws) (λ c κs. search held_laws)
    (λ c. search held_laws))
