-- `common` meets its contract: the tests are those of the definition.
use borrow.Author.Rules.{rules}
use Rattle.replay_all.proofs.Spans.{common_laws}
use Rattle.replay_all.proofs.symbols.common.Statement.{statement}
use Rattle.replay_all.proofs.symbols.common.Tie as tie

pub common_spec : {M : Type 1} → statement M
common_spec =
    tie.close
    (tie.spec (λ c. search common_laws) (λ c κs. search rules) (λ c. search rules) (λ c. search common_laws) (λ c. search rules) (λ c. search rules)
    (λ c. search rules) (λ c. search rules) (λ c κs. search rules) (λ c κs. search rules) (λ c. search common_laws))
