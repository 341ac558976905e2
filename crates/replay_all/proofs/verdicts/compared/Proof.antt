-- `compared` meets its contract: the verdict is that of the two sheets.
use borrow.Author.Rules.{rules}
use Rattle.replay_all.proofs.Judging.{equality_laws}
use Rattle.replay_all.proofs.verdicts.compared.Statement.{statement}
use Rattle.replay_all.proofs.verdicts.compared.Tie as tie

pub compared_spec : {M : Type 1} → statement M
compared_spec =
    tie.close
    (tie.spec (λ c κs. search rules) (λ c. search rules) (λ c κs. search rules) (λ c. search rules) (λ c. search rules) (λ c. search rules)
    (λ c κs. search rules) (λ c. search rules) (λ c κs. search rules) (λ c. search equality_laws))
