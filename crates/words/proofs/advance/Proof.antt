-- `advance` meets its contract: the step is copied into its place.
use Rattle.words.proofs.Reading.{read_laws}
use Rattle.words.proofs.advance.Statement.{statement}
use Rattle.words.proofs.advance.Tie as tie

pub advance_spec : {M : Type 1} → statement M
advance_spec =
    tie.close
    (tie.spec (λ c. search read_laws) (λ c κs. search read_laws) (λ c. search read_laws) (λ c κs. search read_laws)
    (λ c. search read_laws) (λ c. search read_laws))
