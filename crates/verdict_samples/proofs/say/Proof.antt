-- `say` is safe: the line ends within the buffer.
use Rattle.verdict_line.proofs.Judging.{printed_inside}
use borrow.Author.Rules.{rules}
use Rattle.verdict_samples.proofs.say.Statement.{statement}
use Rattle.verdict_samples.proofs.say.Tie as tie

pub say_spec : {M : Type 1} → statement M
say_spec =
    tie.close
    (tie.spec (λ c. search rules) (λ c κs. search rules) (λ c. search rules) (λ c. search rules) (λ c. search (printed_inside, rules))
    (λ c κs. search rules) (λ c. search rules))
