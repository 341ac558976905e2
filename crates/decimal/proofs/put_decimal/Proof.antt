-- `put_decimal` meets its contract: a 32-bit word has at most ten digits.
use borrow.Author.Rules.{rules}
use Rattle.decimal.proofs.Put.{word_room}
use Rattle.decimal.proofs.put_decimal.Statement.{statement}
use Rattle.decimal.proofs.put_decimal.Tie as tie

pub put_decimal_spec : {M : Type 1} → statement M
put_decimal_spec = tie.close (tie.spec (λ c κs. search (word_room, rules)) (λ c. search rules) (λ c. search rules))
