-- The record is put into its place.
use Rattle.epsilon.proofs.Gathering.{range_laws}
use Rattle.epsilon.proofs.add_range.Goals as goal

pub returns : goal.returns
returns c = search range_laws
