-- `put_result` meets its contract: the sheet is written, and the labels are kept.
use Rattle.epsilon.proofs.Answers.{result_laws}
use Rattle.epsilon.proofs.put_result.Statement.{statement}
use Rattle.epsilon.proofs.put_result.Tie as tie

pub put_result_spec : {M : Type 1} → statement M
put_result_spec =
    tie.close
    (tie.spec (λ c κs. search result_laws) (λ c κs. search result_laws) (λ c. search result_laws) (λ c. search result_laws) (λ c. search result_laws))
