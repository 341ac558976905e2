-- `label_list` meets its contract: the stored bytes are the list, and the check tells the fault.
use borrow.Author.Rules.{rules}
use Rattle.replay_all.proofs.Bytes.{label_laws}
use Rattle.replay_all.proofs.inputs.label_list.Statement.{statement}
use Rattle.replay_all.proofs.inputs.label_list.Tie as tie

pub label_list_spec : {M : Type 1} → statement M
label_list_spec =
    tie.close
    (tie.spec (λ c. search label_laws) (λ c. search rules) (λ c. search rules) (λ c κs. search rules) (λ c. search rules) (λ c κs. search rules)
    (λ c. search label_laws) (λ c. search rules) (λ c. search rules) (λ c. search rules) (λ c κs. search rules) (λ c. search rules)
    (λ c κs. search rules) (λ c. search rules) (λ c κs. search rules) (λ c κs. search rules) (λ c. search label_laws) (λ c. search label_laws))
