-- `main` is safe: the line ends within the buffer.
use Rattle.verdict_line.proofs.Judging.{printed_inside}
use borrow.Author.Rules.{rules}
use Rattle.verdict.proofs.main.Statement.{statement}
use Rattle.verdict.proofs.main.Tie as tie

pub main_spec : {M : Type 1} → statement M
main_spec =
    tie.close
    (tie.spec (λ c. search rules) (λ c κs. search rules) (λ c. search rules) (λ c. search rules) (λ c. search rules) (λ c. search rules)
    (λ c κs. search rules) (λ c. search rules) (λ c. search rules) (λ c. search (printed_inside, rules)) (λ c κs. search rules) (λ c. search rules))
