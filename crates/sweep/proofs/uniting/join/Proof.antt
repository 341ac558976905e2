-- `join` meets its contract.
use borrow.Author.Rules.{rules}
use Rattle.sweep.proofs.Trees.{join_done}
use Rattle.sweep.proofs.uniting.join.Statement.{statement}
use Rattle.sweep.proofs.uniting.join.Tie as tie

pub join_spec : {M : Type 1} → statement M
join_spec =
    tie.close
    (tie.spec (λ c. search rules) (λ c. search rules) (λ c κs. search rules) (λ c. search rules) (λ c. search rules) (λ c. search rules)
    (λ c κs. search rules) (λ c. search rules) (λ c κs. search rules) (λ c. search rules) (λ c. search (join_done, rules)))
