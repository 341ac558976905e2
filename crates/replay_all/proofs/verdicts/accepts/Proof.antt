-- `accepts` meets its contract: the answer is compared with 1.
use borrow.Author.Rules.{rules}
use Rattle.replay_all.proofs.Judging.{apart_laws}
use Rattle.replay_all.proofs.verdicts.accepts.Statement.{statement}
use Rattle.replay_all.proofs.verdicts.accepts.Tie as tie

pub accepts_spec : {M : Type 1} → statement M
accepts_spec =
    tie.close
    (tie.spec (λ c κs. search rules) (λ c. search rules) (λ c. search rules) (λ c. search apart_laws) (λ c. search apart_laws))
