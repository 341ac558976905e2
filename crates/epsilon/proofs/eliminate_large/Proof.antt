-- `eliminate_large` meets its contract: too many transitions, or all is written.
use borrow.Author.Rules.{rules}
use native.Mathlib.Omega.{arith}
use Rattle.labels.specs.Labels.{read_labels}
use Rattle.epsilon.proofs.Answers.{memory_laws, too_many}
use Rattle.epsilon.proofs.eliminate_large.Statement.{statement}
use Rattle.epsilon.proofs.eliminate_large.Tie as tie

pub eliminate_large_spec : {M : Type 1} → statement M
eliminate_large_spec =
    tie.close
    (tie.spec (λ c. search memory_laws) (λ c. search memory_laws) (λ c κs. search memory_laws) (λ c. too_many c.args.s.now _ _ c.gather-end.ensures (search rules) (omega arith) _ _ (read_labels c.args.labels.now))
    (λ c. search memory_laws) (λ c. search memory_laws) (λ c. search memory_laws) (λ c κs. search memory_laws) (λ c. search memory_laws) (λ c. search memory_laws) (λ c. search memory_laws))
