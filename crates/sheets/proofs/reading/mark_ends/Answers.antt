use Rattle.std.proofs.Common.{arith}
use Rattle.sheets.proofs.Below.{state_bound, marked_all, marked_next}
use Rattle.sheets.proofs.reading.mark_ends.Goals as goal

pub loop-k-preserved : goal.loop-k-preserved
loop-k-preserved c = search marked_next

pub returns : goal.returns
returns c = search marked_all

pub bounds-ends-r : goal.bounds-ends-r
bounds-ends-r c = omega (arith, c.loop-k.invariant.long, state_bound _ _ c.loop-k.k c.as_chunks.ensures.front c.as_chunks.ensures.front_len c.requires.1 c.loop-k-test.true)
