-- `utf8::is_continuation` meets its contract.
use Rattle.lists.proofs.Tests.{tests}
use Rattle.utf8.specs.Utf8.{is_continuation}
use Rattle.utf8.proofs.is_continuation.Statement.{statement}
use Rattle.utf8.proofs.is_continuation.Tie as tie

returns-then-b-lt128 : tie.Need-returns-then-b-lt128
unfolding is_continuation
returns-then-b-lt128 c = search tests

returns : tie.Need-returns
unfolding is_continuation
returns c = search tests

pub is_continuation_spec : {M : Type 1} → statement M
is_continuation_spec = tie.close (tie.spec returns-then-b-lt128 returns)
