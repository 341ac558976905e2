use Rattle.std.proofs.Common.{arith, rules}
use Rattle.ranges.proofs.Writing.{holes_start, holes_skip, holes_next, holes_room, holes_count, holes_words}
use Rattle.ranges.proofs.missing_ranges.Goals as goal
use Rattle.ranges.proofs.missing_ranges.Goals.{then-r-eq1, else-r-eq1}

pub loop-r-init : goal.loop-r-init
loop-r-init c = record { room = search rules; left = search holes_start }

pub returns : goal.returns
returns c = record { count = search holes_count; written = search holes_words }

pub loop-r-preserved : goal.loop-r-preserved
loop-r-preserved c =
    elim c.if-r-eq1.branch [
      | then-r-eq1 w ↦ rw (w.holes-is, w.cursor-is, w.n-is) (record { room = search holes_room; left = search holes_next })
      | else-r-eq1 w ↦ rw (w.holes-is, w.cursor-is, w.n-is) (record { room = omega arith; left = search holes_skip })
    ]
