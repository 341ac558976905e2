-- The line of the ten bytes that were read.
use Rattle.std.proofs.Common.{rules}
use Rattle.dsu_replay.proofs.Runs.{line_ten}
use Rattle.dsu_replay.proofs.read_line.Goals as goal

pub returns : goal.returns
returns c = search (line_ten, rules)
