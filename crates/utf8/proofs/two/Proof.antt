-- `utf8::two` meets its contract.
use borrow.Author.Rules.{rules}
use Rattle.utf8.proofs.Sequence.{faults, whole_2}
use Rattle.utf8.proofs.two.Statement.{statement}
use Rattle.utf8.proofs.two.Tie as tie

pub two_spec : {M : Type 1} → statement M
two_spec =
    tie.close
    (tie.spec
    (λ c. search rules) (λ c. search faults) (λ c. search rules) (λ c. search rules) (λ c κs. search rules) (λ c. search faults) (λ c. search rules)
    (λ c κs. search rules) (λ c κs. search rules) (λ c κs. search rules) (λ c. search whole_2))
