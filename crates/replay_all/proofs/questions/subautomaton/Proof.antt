-- `subautomaton` meets its contract: the lists of the case are the sheets, and the stored bytes their labels.
use borrow.Author.Rules.{rules}
use Rattle.replay_all.proofs.Calls.{sub_laws}
use Rattle.replay_all.proofs.questions.subautomaton.Statement.{statement}
use Rattle.replay_all.proofs.questions.subautomaton.Tie as tie

pub subautomaton_spec : {M : Type 1} → statement M
subautomaton_spec =
    tie.close
    (tie.spec (λ c κs. search rules) (λ c. search rules) (λ c κs. search rules) (λ c. search rules) (λ c. search rules) (λ c κs. search rules)
    (λ c. search rules) (λ c. search rules) (λ c κs. search rules) (λ c. search rules) (λ c κs. search rules) (λ c. search sub_laws)
    (λ c. search rules) (λ c κs. search rules) (λ c. search sub_laws) (λ c. search rules) (λ c. search rules) (λ c. search rules) (λ c. search rules)
    (λ c. search rules) (λ c. search rules) (λ c κs. search rules) (λ c κs. search rules) (λ c. search sub_laws))
