-- `leads_on` meets its contract: its two tests are those of the definition.
use Rattle.sets.proofs.Closing.{lead_laws}
use Rattle.sets.proofs.closure.leads_on.Statement.{statement}
use Rattle.sets.proofs.closure.leads_on.Tie as tie

pub leads_on_spec : {M : Type 1} → statement M
leads_on_spec =
    tie.close
    (tie.spec (λ c. search lead_laws) (λ c. search lead_laws) (λ c. search lead_laws) (λ c. search lead_laws) (λ c. search lead_laws)
    (λ c. search lead_laws) (λ c κs. search lead_laws) (λ c. search lead_laws) (λ c. search lead_laws) (λ c κs. search lead_laws)
    (λ c. search lead_laws))
