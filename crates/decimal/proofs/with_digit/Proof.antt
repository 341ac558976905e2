-- `with_digit` meets its contract: a digit is not below 48.
use borrow.Author.Rules.{rules}
use native.Mathlib.Omega.{arith}
use Rattle.decimal.proofs.Decimal.{digit_least}
use Rattle.decimal.proofs.with_digit.Statement.{statement}
use Rattle.decimal.proofs.with_digit.Tie as tie

pub with_digit_spec : {M : Type 1} → statement M
with_digit_spec =
    tie.close
    (tie.spec (λ c. search rules) (λ c. omega (arith, digit_least _ c.requires.1)) (λ c. search rules) (λ c. search rules) (λ c. search rules))
