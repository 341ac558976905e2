-- `put_row` meets its contract.
use borrow.Author.Rules.{rules}
use Rattle.sets.specs.inner.Words.{put_at}
use Rattle.sets.proofs.put_row.Statement.{statement}
use Rattle.sets.proofs.put_row.Tie as tie

pub put_row_spec : {M : Type 1} → statement M
unfolding put_at
put_row_spec =
    tie.close
    (tie.spec (λ c. search rules) (λ c. search rules) (λ c. search rules) (λ c. search rules) (λ c. search rules)
    (λ c κs. search rules) (λ c. search rules) (λ c. search rules))
