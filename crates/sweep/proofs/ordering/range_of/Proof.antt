-- `range_of` meets its contract.
use borrow.Author.Rules.{rules}
use Rattle.sweep.proofs.Putting.{range_words}
use Rattle.sweep.proofs.ordering.range_of.Statement.{statement}
use Rattle.sweep.proofs.ordering.range_of.Tie as tie

pub range_of_spec : {M : Type 1} → statement M
range_of_spec =
    tie.close
    (tie.spec (λ c. search rules) (λ c. search rules) (λ c. search rules) (λ c κs. search rules) (λ c. search rules) (λ c. search rules)
    (λ c. search rules) (λ c. search rules) (λ c. search rules) (λ c. search rules) (λ c. search rules) (λ c. search rules) (λ c. search rules)
    (λ c. search rules) (λ c. search rules) (λ c. search (range_words, rules)))
