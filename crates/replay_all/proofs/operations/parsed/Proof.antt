-- `parsed` meets its contract: the stored bytes are the text.
use borrow.Author.Rules.{rules}
use Rattle.replay_all.proofs.Calls.{parse_laws}
use Rattle.replay_all.proofs.operations.parsed.Statement.{statement}
use Rattle.replay_all.proofs.operations.parsed.Tie as tie

pub parsed_spec : {M : Type 1} → statement M
parsed_spec =
    tie.close
    (tie.spec (λ c κs. search rules) (λ c. search rules) (λ c κs. search rules) (λ c. search parse_laws) (λ c. search rules) (λ c. search rules)
    (λ c. search rules) (λ c. search rules) (λ c κs. search rules) (λ c. search rules) (λ c. search rules) (λ c. search rules) (λ c κs. search rules)
    (λ c. search parse_laws))
