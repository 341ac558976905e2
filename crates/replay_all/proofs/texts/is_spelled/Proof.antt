-- `is_spelled` meets its contract: the stored bytes are the list.
use borrow.Author.Rules.{rules}
use Rattle.replay_all.proofs.Spelling.{spelled_laws}
use Rattle.replay_all.proofs.texts.is_spelled.Statement.{statement}
use Rattle.replay_all.proofs.texts.is_spelled.Tie as tie

pub is_spelled_spec : {M : Type 1} → statement M
is_spelled_spec =
    tie.close
    (tie.spec (λ c. search spelled_laws) (λ c. search rules) (λ c. search rules) (λ c. search spelled_laws) (λ c. search rules)
    (λ c κs. search rules) (λ c. search rules) (λ c. search rules) (λ c. search spelled_laws) (λ c. search rules) (λ c κs. search rules)
    (λ c. search spelled_laws) (λ c. search rules) (λ c. search rules) (λ c κs. search rules) (λ c. search spelled_laws))
