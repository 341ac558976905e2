-- `union_row` meets its contract.
use borrow.Author.Rules.{rules}
use Rattle.sets.specs.inner.Words.{union_at}
use Rattle.sets.proofs.union_row.Statement.{statement}
use Rattle.sets.proofs.union_row.Tie as tie

pub union_row_spec : {M : Type 1} → statement M
unfolding union_at
union_row_spec =
    tie.close
    (tie.spec (λ c. search rules) (λ c. search rules) (λ c. search rules) (λ c. search rules) (λ c. search rules)
    (λ c. search rules) (λ c. search rules) (λ c. search rules) (λ c. search rules) (λ c. search rules)
    (λ c. search rules) (λ c. search rules) (λ c. search rules) (λ c. search rules) (λ c. search rules)
    (λ c. search rules) (λ c. search rules) (λ c. search rules) (λ c. search rules) (λ c. search rules)
    (λ c. search rules) (λ c. search rules) (λ c. search rules) (λ c. search rules) (λ c κs. search rules)
    (λ c. search rules) (λ c. search rules))
