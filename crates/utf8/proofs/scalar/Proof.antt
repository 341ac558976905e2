-- `utf8::scalar` meets its contract.
use borrow.Author.Rules.{rules}
use Rattle.utf8.proofs.Sequence.{scalar_bad, scalar_good}
use Rattle.utf8.proofs.scalar.Statement.{statement}
use Rattle.utf8.proofs.scalar.Tie as tie

pub scalar_spec : {M : Type 1} → statement M
scalar_spec = tie.close (tie.spec (λ c κs. search rules) (λ c κs. search rules) (λ c. search scalar_bad) (λ c. search rules) (λ c. search scalar_good))
