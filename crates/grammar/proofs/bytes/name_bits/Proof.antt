-- `name_bits` meets its contract: the test is that of the definition.
use Rattle.lists.proofs.Tests.{tests}
use Rattle.grammar.proofs.bytes.name_bits.Statement.{statement}
use Rattle.grammar.proofs.bytes.name_bits.Tie as tie

pub name_bits_spec : {M : Type 1} → statement M
name_bits_spec =
    tie.close
    (tie.spec (λ c. search tests) (λ c. search tests))
