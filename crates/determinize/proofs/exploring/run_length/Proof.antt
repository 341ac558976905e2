-- `run_length` meets its contract.
use Rattle.determinize.proofs.Attempts.{length_laws}
use Rattle.determinize.proofs.exploring.run_length.Statement.{statement}
use Rattle.determinize.proofs.exploring.run_length.Tie as tie

pub run_length_spec : {M : Type 1} → statement M
run_length_spec =
    tie.close
    (tie.spec (λ c. search length_laws) (λ c. search length_laws) (λ c. search length_laws) (λ c. search length_laws) (λ c. search length_laws)
    (λ c. search length_laws) (λ c. search length_laws) (λ c. search length_laws) (λ c. search length_laws) (λ c. search length_laws))
