-- `utf8::three` meets its contract.
use borrow.Author.Rules.{rules}
use Rattle.utf8.proofs.Sequence.{faults, whole_3}
use Rattle.utf8.proofs.three.Statement.{statement}
use Rattle.utf8.proofs.three.Tie as tie

pub three_spec : {M : Type 1} → statement M
three_spec =
    tie.close
    (tie.spec
    (λ c. search rules) (λ c. search faults) (λ c. search rules) (λ c. search rules) (λ c κs. search rules) (λ c. search faults) (λ c. search rules)
    (λ c. search rules) (λ c κs. search rules) (λ c. search faults) (λ c. search rules) (λ c κs. search rules) (λ c κs. search rules)
    (λ c κs. search rules) (λ c κs. search rules) (λ c. search whole_3))
