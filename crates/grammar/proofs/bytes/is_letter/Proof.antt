-- `is_letter` meets its contract: the tests on the way are those of the definition.
use Rattle.lists.proofs.Tests.{tests}
use Rattle.grammar.specs.Bytes.{is_letter}
use Rattle.grammar.proofs.Letters.{letter_low}
use Rattle.grammar.proofs.bytes.is_letter.Statement.{statement}
use Rattle.grammar.proofs.bytes.is_letter.Tie as tie

pub is_letter_spec : {M : Type 1} → statement M
unfolding is_letter
is_letter_spec =
    tie.close
    (tie.spec (λ c. search letter_low) (λ c. search tests) (λ c. search tests) (λ c. search tests))
