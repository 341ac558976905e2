-- `agrees` meets its contract: each kind has its own function.
use borrow.Author.Rules.{rules}
use Rattle.replay_all.proofs.Cases.{agree_laws}
use Rattle.replay_all.proofs.agrees.Statement.{statement}
use Rattle.replay_all.proofs.agrees.Tie as tie

pub agrees_spec : {M : Type 1} → statement M
agrees_spec =
    tie.close
    (tie.spec (λ c. search rules) (λ c κs. search rules) (λ c. search rules) (λ c κs. search rules) (λ c. search rules) (λ c κs. search rules)
    (λ c. search rules) (λ c κs. search rules) (λ c. search rules) (λ c κs. search rules) (λ c. search rules) (λ c κs. search rules)
    (λ c. search rules) (λ c κs. search rules) (λ c. search rules) (λ c κs. search rules) (λ c. search rules) (λ c κs. search rules)
    (λ c. search rules) (λ c κs. search rules) (λ c. search rules) (λ c κs. search rules) (λ c. search rules) (λ c κs. search rules)
    (λ c. search rules) (λ c κs. search rules) (λ c. search rules) (λ c κs. search rules) (λ c. search rules) (λ c κs. search rules)
    (λ c. search rules) (λ c κs. search rules) (λ c. search rules) (λ c κs. search rules) (λ c. search rules) (λ c κs. search rules) (λ c. search agree_laws)
    (λ c. search agree_laws) (λ c. search agree_laws)
    (λ c. search agree_laws) (λ c. search agree_laws) (λ c. search agree_laws) (λ c. search agree_laws) (λ c. search agree_laws) (λ c. search agree_laws)
    (λ c. search agree_laws) (λ c. search agree_laws) (λ c. search agree_laws) (λ c. search agree_laws) (λ c. search agree_laws) (λ c. search agree_laws)
    (λ c. search agree_laws) (λ c. search agree_laws) (λ c. search agree_laws))
