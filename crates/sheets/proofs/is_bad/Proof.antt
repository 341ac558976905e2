-- `is_bad` meets its contract: at each return the tests on the way say what the test in `is_bad` is.
use Rattle.lists.proofs.Tests.{tests}
use Rattle.sheets.specs.Fault.{is_bad}
use Rattle.sheets.proofs.is_bad.Statement.{statement}
use Rattle.sheets.proofs.is_bad.Tie as tie

pub is_bad_spec : {M : Type 1} → statement M
unfolding is_bad
is_bad_spec =
    tie.close
    (tie.spec (λ c. search tests) (λ c. search tests) (λ c. search tests) (λ c. search tests) (λ c. search tests)
    (λ c. search tests) (λ c. search tests) (λ c. search tests))
