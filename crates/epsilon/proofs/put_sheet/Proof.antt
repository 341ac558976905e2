-- `put_sheet` meets its contract: the sections stand one behind the other.
use Rattle.epsilon.proofs.Writing.{sheet_laws}
use Rattle.epsilon.proofs.put_sheet.Statement.{statement}
use Rattle.epsilon.proofs.put_sheet.Tie as tie

pub put_sheet_spec : {M : Type 1} → statement M
put_sheet_spec =
    tie.close
    (tie.spec (λ c. search sheet_laws) (λ c. search sheet_laws) (λ c κs. search sheet_laws) (λ c κs. search sheet_laws)
    (λ c. search sheet_laws) (λ c κs. search sheet_laws) (λ c κs. search sheet_laws) (λ c. search sheet_laws)
    (λ c. search sheet_laws))
