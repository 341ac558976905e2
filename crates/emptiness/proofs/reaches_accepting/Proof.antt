-- `reaches_accepting` meets its contract: the search answers where the passes do not.
use Rattle.emptiness.proofs.Passes.{tells_laws}
use Rattle.emptiness.proofs.reaches_accepting.Statement.{statement}
use Rattle.emptiness.proofs.reaches_accepting.Tie as tie

pub reaches_accepting_spec : {M : Type 1} → statement M
reaches_accepting_spec =
    tie.close
    (tie.spec (λ c. search tells_laws) (λ c κs. search tells_laws) (λ c. search tells_laws) (λ c. search tells_laws)
    (λ c. search tells_laws) (λ c κs. search tells_laws) (λ c. search tells_laws) (λ c. search tells_laws) (λ c. search tells_laws))
