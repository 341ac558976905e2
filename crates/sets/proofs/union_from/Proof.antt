-- `union_from` meets its contract.
use borrow.Author.Rules.{rules}
use Rattle.sets.specs.inner.Words.{union_at}
use Rattle.sets.proofs.union_from.Statement.{statement}
use Rattle.sets.proofs.union_from.Tie as tie

pub union_from_spec : {M : Type 1} → statement M
unfolding union_at
union_from_spec =
    tie.close
    (tie.spec (λ c. search rules) (λ c. search rules) (λ c. search rules) (λ c. search rules) (λ c. search rules)
    (λ c. search rules) (λ c. search rules) (λ c. search rules) (λ c. search rules) (λ c. search rules)
    (λ c. search rules) (λ c. search rules) (λ c. search rules) (λ c. search rules) (λ c. search rules)
    (λ c. search rules) (λ c κs. search rules) (λ c. search rules) (λ c. search rules))
