-- `covers` meets its contract: at each return the tests on the way say what the test in `fits` is.
use Rattle.lists.proofs.Tests.{tests}
use Rattle.subautomaton.specs.inner.Tables.{fits}
use Rattle.subautomaton.proofs.covers.Statement.{statement}
use Rattle.subautomaton.proofs.covers.Tie as tie

pub covers_spec : {M : Type 1} → statement M
unfolding fits
covers_spec =
    tie.close
    (tie.spec (λ c. search tests) (λ c. search tests) (λ c. search tests) (λ c. search tests) (λ c. search tests)
    (λ c. search tests) (λ c. search tests) (λ c. search tests) (λ c. search tests) (λ c. search tests) (λ c. search tests)
    (λ c. search tests) (λ c. search tests) (λ c. search tests))
