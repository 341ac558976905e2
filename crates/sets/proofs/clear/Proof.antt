-- `clear` meets its contract.
use borrow.Author.Rules.{rules}
use Rattle.sets.specs.inner.Words.{clear_at}
use Rattle.sets.proofs.clear.Statement.{statement}
use Rattle.sets.proofs.clear.Tie as tie

pub clear_spec : {M : Type 1} → statement M
unfolding clear_at
clear_spec =
    tie.close
    (tie.spec (λ c κs. search rules) (λ c. search rules) (λ c. search rules))
