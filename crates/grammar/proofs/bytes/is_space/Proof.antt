-- `is_space` meets its contract: the tests on the way are those of the definition.
use Rattle.lists.proofs.Tests.{tests}
use Rattle.grammar.specs.Bytes.{is_space}
use Rattle.grammar.proofs.bytes.is_space.Statement.{statement}
use Rattle.grammar.proofs.bytes.is_space.Tie as tie

pub is_space_spec : {M : Type 1} → statement M
unfolding is_space
is_space_spec =
    tie.close
    (tie.spec (λ c. search tests) (λ c. search tests) (λ c. search tests) (λ c. search tests))
