-- Sheets that pass the check are accepted.
use Rattle.equality.proofs.Comparing.{comparing}
use Rattle.equality.proofs.equality.Goals as goal

pub compare-requires : goal.compare-requires
compare-requires c = search comparing
