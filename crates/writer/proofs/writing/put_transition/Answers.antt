-- The arrow, and then the range.
use Rattle.std.proofs.Common.{rules}
use Rattle.writer.proofs.Putting.{transition_arrow, transition_range, transition_put}
use Rattle.writer.proofs.writing.put_transition.Goals as goal

pub put_arrow-range-requires : goal.put_arrow-range-requires
put_arrow-range-requires c = (search rules, search rules, transition_arrow _ _ _ c.args.out.now c.requires.2)

pub put_range-requires : goal.put_range-requires
put_range-requires c = transition_range _ _ _ _ c.requires.2 _ _ c.put_arrow-range.ensures

pub returns : goal.returns
returns c = transition_put _ _ _ _ c.requires.2 _ _ c.put_arrow-range.ensures _ _ c.put_range.ensures
