-- `put_head` meets its contract: the accept words stand behind the number of states.
use Rattle.totality.proofs.Writing.{head_laws}
use Rattle.totality.proofs.total.put_head.Statement.{statement}
use Rattle.totality.proofs.total.put_head.Tie as tie

pub put_head_spec : {M : Type 1} → statement M
put_head_spec =
    tie.close
    (tie.spec (λ c. search head_laws) (λ c. search head_laws) (λ c. search head_laws) (λ c κs. search head_laws)
    (λ c. search head_laws) (λ c. search head_laws) (λ c. search head_laws) (λ c. search head_laws) (λ c κs. search head_laws)
    (λ c. search head_laws) (λ c. search head_laws))
