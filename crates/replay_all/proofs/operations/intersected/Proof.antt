-- `intersected` meets its contract: the lists of the case are the sheets.
use borrow.Author.Rules.{rules}
use Rattle.replay_all.proofs.Calls.{call_laws}
use Rattle.replay_all.proofs.operations.intersected.Statement.{statement}
use Rattle.replay_all.proofs.operations.intersected.Tie as tie

pub intersected_spec : {M : Type 1} → statement M
intersected_spec =
    tie.close
    (tie.spec (λ c κs. search rules) (λ c. search rules) (λ c κs. search rules) (λ c. search rules) (λ c. search rules) (λ c κs. search rules)
    (λ c. search rules) (λ c. search rules) (λ c. search rules) (λ c. search rules) (λ c κs. search rules) (λ c. search call_laws))
