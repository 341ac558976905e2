-- `lacks_room` meets its contract: the tests on the way are those of the definition.
use Rattle.lists.proofs.Tests.{tests}
use Rattle.output.proofs.lacks_room.Statement.{statement}
use Rattle.output.proofs.lacks_room.Tie as tie

pub lacks_room_spec : {M : Type 1} → statement M
lacks_room_spec =
    tie.close
    (tie.spec (λ c. search tests) (λ c. search tests))
