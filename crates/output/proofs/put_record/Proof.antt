-- `put_record` meets its contract.
use borrow.Author.Rules.{rules}
use native.Mathlib.Omega.{arith}
use lib.ListN.{length-set}
use Rattle.stores.proofs.Written.{written_five}
use Rattle.output.proofs.put_record.Statement.{statement}
use Rattle.output.proofs.put_record.Tie as tie

pub put_record_spec : {M : Type 1} → statement M
put_record_spec =
    tie.close
    (tie.spec (λ c. search rules) (λ c. search rules) (λ c. search rules) (λ c. search rules) (λ c. simp length-set (omega arith))
    (λ c. search rules) (λ c. search rules) (λ c. simp length-set (omega arith)) (λ c. search rules) (λ c. search rules)
    (λ c. simp length-set (omega arith)) (λ c. search rules) (λ c. search rules) (λ c. simp length-set (omega arith))
    (λ c. search rules) (λ c. search rules) (λ c. written_five _ _ _ _ _ _ _))
