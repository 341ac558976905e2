-- `is_listed` meets its contract: the stored bytes are the second list.
use borrow.Author.Rules.{rules}
use Rattle.replay_all.proofs.Outcomes.{listed_laws, listed_bytes}
use Rattle.replay_all.proofs.operations.is_listed.Statement.{statement}
use Rattle.replay_all.proofs.operations.is_listed.Tie as tie

pub is_listed_spec : {M : Type 1} → statement M
is_listed_spec =
    tie.close
    (tie.spec (λ c. search listed_laws) (λ c κs. search rules) (λ c. search rules) (λ c. search rules) (λ c κs. search rules) (λ c. search rules)
    (λ c. search rules) (λ c. search listed_laws) (λ c. search rules) (λ c κs. search rules) (λ c. search listed_laws) (λ c κs. search rules)
    (λ c. search rules) (λ c. search rules) (λ c κs. search rules)
    (λ c.
    listed_bytes _ _ _ c.args.at _ _ c.list-sheet.ensures c.list-list.ensures c.if-next-list.false _ c.bytes-k.ensures.1.1 c.if-k-list.false
    _ c.same.ensures c.if-same.true _ _ c.bytes-k.ensures.1.0 c.bytes-k.ensures.0.0 _ c.same-then-same.ensures)
    (λ c. search listed_laws))
