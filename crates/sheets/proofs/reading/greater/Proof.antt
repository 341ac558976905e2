-- `greater` meets its contract: the test decides.
use Rattle.lists.proofs.Tests.{tests}
use Rattle.sheets.proofs.reading.greater.Statement.{statement}
use Rattle.sheets.proofs.reading.greater.Tie as tie

pub greater_spec : {M : Type 1} → statement M
greater_spec = tie.close (tie.spec (λ c. search tests) (λ c. search tests))
