-- `put_start` meets its contract.
use borrow.Author.Rules.{rules}
use native.Mathlib.Omega.{arith}
use lib.ListN.{length-set}
use Rattle.output.proofs.put_start.Statement.{statement}
use Rattle.output.proofs.put_start.Tie as tie

pub put_start_spec : {M : Type 1} → statement M
put_start_spec =
    tie.close
    (tie.spec (λ c. search rules) (λ c. simp length-set (omega arith)) (λ c. simp length-set (omega arith)) (λ c. search rules)
    (λ c. search rules))
