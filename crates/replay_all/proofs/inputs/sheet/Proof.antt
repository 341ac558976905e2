-- `sheet` meets its contract: the check tells the fault.
use Rattle.replay_all.proofs.Decisions.{sheet_laws}
use Rattle.replay_all.proofs.inputs.sheet.Statement.{statement}
use Rattle.replay_all.proofs.inputs.sheet.Tie as tie

pub sheet_spec : {M : Type 1} → statement M
sheet_spec =
    tie.close
    (tie.spec (λ c κs. search sheet_laws) (λ c. search sheet_laws) (λ c κs. search sheet_laws) (λ c. search sheet_laws) (λ c κs. search sheet_laws)
    (λ c. search sheet_laws) (λ c κs. search sheet_laws) (λ c κs. search sheet_laws) (λ c. search sheet_laws) (λ c. search sheet_laws))
