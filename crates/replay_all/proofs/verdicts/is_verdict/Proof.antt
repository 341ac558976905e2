-- `is_verdict` meets its contract: the tests are those of the definition.
use borrow.Author.Rules.{rules}
use Rattle.replay_all.proofs.Judging.{verdict_laws}
use Rattle.replay_all.proofs.verdicts.is_verdict.Statement.{statement}
use Rattle.replay_all.proofs.verdicts.is_verdict.Tie as tie

pub is_verdict_spec : {M : Type 1} → statement M
is_verdict_spec =
    tie.close
    (tie.spec (λ c. search rules) (λ c κs. search rules) (λ c. search verdict_laws) (λ c κs. search rules) (λ c. search rules)
    (λ c. search verdict_laws) (λ c κs. search rules) (λ c. search verdict_laws) (λ c. search rules) (λ c. search rules) (λ c. search rules)
    (λ c κs. search rules) (λ c κs. search rules) (λ c. search verdict_laws) (λ c. search rules) (λ c κs. search rules) (λ c κs. search rules)
    (λ c. search verdict_laws) (λ c. search verdict_laws) (λ c. search verdict_laws))
