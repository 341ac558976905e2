-- `determinized` meets its contract: the list of the case is the sheet.
use borrow.Author.Rules.{rules}
use Rattle.replay_all.proofs.Calls.{call_laws}
use Rattle.replay_all.proofs.operations.determinized.Statement.{statement}
use Rattle.replay_all.proofs.operations.determinized.Tie as tie

pub determinized_spec : {M : Type 1} → statement M
determinized_spec =
    tie.close
    (tie.spec (λ c κs. search rules) (λ c. search rules) (λ c. search rules) (λ c κs. search rules) (λ c. search rules) (λ c. search rules)
    (λ c. search rules) (λ c κs. search rules) (λ c. search call_laws))
