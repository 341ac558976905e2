-- `is_digit` meets its contract: the tests on the way are those of the definition.
use Rattle.lists.proofs.Tests.{tests}
use Rattle.decimal.specs.Decimal.{is_digit}
use Rattle.decimal.proofs.is_digit.Statement.{statement}
use Rattle.decimal.proofs.is_digit.Tie as tie

pub is_digit_spec : {M : Type 1} → statement M
unfolding is_digit
is_digit_spec =
    tie.close
    (tie.spec (λ c. search tests) (λ c. search tests))
