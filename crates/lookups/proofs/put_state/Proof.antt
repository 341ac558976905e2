-- `put_state` meets its contract: it writes the record where the digit is 1.
use Rattle.lookups.proofs.Sheets.{state_laws}
use Rattle.lookups.proofs.put_state.Statement.{statement}
use Rattle.lookups.proofs.put_state.Tie as tie

pub put_state_spec : {M : Type 1} → statement M
put_state_spec = tie.close (tie.spec (λ c κs. search state_laws) (λ c. search state_laws) (λ c. search state_laws) (λ c. search state_laws))
