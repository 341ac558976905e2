-- The first number of the first line is stored, and the first case stands behind that line.
use Rattle.replay.proofs.Counting.{tally_begun, tally_none}
use Rattle.replay.proofs.Tally.begin.Goals as goal
use Rattle.replay.proofs.Tally.begin.Goals.{in-Some, in-None}

pub returns-clause-begun : goal.returns-clause-begun
returns-clause-begun c =
    elim c.match-read_case.branch [
      | in-Some w ↦ tally_begun _ _ _ c.read_case.ensures.stored _ c.fresh.ensures.fresh _ w.in-Some.ensures.case w.to-is
      | in-None w ↦ tally_none _ _ _ c.read_case.ensures.stored _ c.fresh.ensures.fresh w.in-None.ensures.case w.to-is
    ]
