-- `is_range` meets its contract.
use borrow.Author.Rules.{rules}
use Rattle.sweep.proofs.Putting.{range_kind}
use Rattle.sweep.proofs.ordering.is_range.Statement.{statement}
use Rattle.sweep.proofs.ordering.is_range.Tie as tie

pub is_range_spec : {M : Type 1} → statement M
is_range_spec =
    tie.close
    (tie.spec (λ c. search rules) (λ c. search rules) (λ c. search rules) (λ c κs. search rules) (λ c. search rules) (λ c. search rules)
    (λ c. search rules) (λ c. search (range_kind, rules)))
