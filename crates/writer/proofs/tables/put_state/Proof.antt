-- `put_state` meets its contract.
use Rattle.writer.proofs.Gathering.{state_laws}
use Rattle.writer.proofs.tables.put_state.Statement.{statement}
use Rattle.writer.proofs.tables.put_state.Tie as tie

pub put_state_spec : {M : Type 1} → statement M
put_state_spec =
    tie.close
    (tie.spec
    (λ c κs. search state_laws) (λ c. search state_laws) (λ c. search state_laws) (λ c. search state_laws))
