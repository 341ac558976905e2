-- The parts of a transition, and each part's bound.
use Rattle.std.proofs.Common.{rules, arith}
use Rattle.writer.proofs.Counting.{transition_counted}
use Rattle.writer.proofs.lengths.transition_length.Goals as goal

pub returns : goal.returns
returns c = (search (transition_counted, rules), omega arith)
