-- What the first pass leaves is what the second asks for.
use Rattle.std.proofs.Common.{arith, rules}
use Rattle.determinize.proofs.Attempts.{attempt_finished, attempt_start}
use Rattle.determinize.proofs.determinize_large.Goals as goal

pub finish-requires : goal.finish-requires
finish-requires c =
    (c.requires.0.tables.accepted, attempt_finished _ _ _ _ _ _ c.explore.ensures _ c.in-Ok.is, omega (arith, c.requires.0.long), c.requires.1)

pub explore_by_events-progress-requires : goal.explore_by_events-progress-requires
explore_by_events-progress-requires c = (
  record { tables = c.requires.0.tables; start = attempt_start _ _ _ _ _ _ c.explore.ensures _ c.in-Err.is; long = omega (arith, c.requires.0.long) },
  search rules,
)
