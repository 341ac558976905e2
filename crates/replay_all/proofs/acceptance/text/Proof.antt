-- `text` meets its contract: the stored bytes are the list.
use borrow.Author.Rules.{rules}
use Rattle.replay_all.proofs.Bytes.{text_laws}
use Rattle.replay_all.proofs.acceptance.text.Statement.{statement}
use Rattle.replay_all.proofs.acceptance.text.Tie as tie

pub text_spec : {M : Type 1} → statement M
text_spec =
    tie.close
    (tie.spec (λ c κs. search rules) (λ c. search rules) (λ c κs. search rules) (λ c. search rules) (λ c. search rules) (λ c. search rules)
    (λ c κs. search rules) (λ c. search text_laws) (λ c. search rules) (λ c. search rules) (λ c κs. search rules) (λ c κs. search rules)
    (λ c. search text_laws))
