-- `utf8::four` meets its contract.
use borrow.Author.Rules.{rules}
use Rattle.utf8.proofs.Sequence.{faults, whole_4}
use Rattle.utf8.proofs.four.Statement.{statement}
use Rattle.utf8.proofs.four.Tie as tie

pub four_spec : {M : Type 1} → statement M
four_spec =
    tie.close
    (tie.spec
    (λ c. search rules) (λ c. search faults) (λ c. search rules) (λ c. search rules) (λ c κs. search rules) (λ c. search faults) (λ c. search rules)
    (λ c. search rules) (λ c κs. search rules) (λ c. search faults) (λ c. search rules) (λ c. search rules) (λ c κs. search rules)
    (λ c. search faults) (λ c. search rules) (λ c κs. search rules) (λ c κs. search rules) (λ c κs. search rules) (λ c κs. search rules)
    (λ c κs. search rules) (λ c. search whole_4))
