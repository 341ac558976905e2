-- `put` meets its contract: one store, or none.
use borrow.Author.Rules.{rules}
use Rattle.replay.proofs.Lines.{put_no, put_out, put_in}
use Rattle.replay.proofs.put.Statement.{statement}
use Rattle.replay.proofs.put.Tie as tie

pub put_spec : {M : Type 1} → statement M
put_spec =
    tie.close
    (tie.spec (λ c. search rules) (λ c. put_out _ _ _ _ c.if-begun.true c.if-out-n.true) (λ c. search rules) (λ c. search rules)
    (λ c. search rules) (λ c. search rules) (λ c. put_in _ _ _ _ c.if-begun.true) (λ c. put_no _ _ _ _ c.if-begun.false))
