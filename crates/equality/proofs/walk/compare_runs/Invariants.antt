-- The symbols of the records before `j` of the first run are done, and of those before `k` of the second.
use Rattle.std.proofs.Common.{◌-◌, length}
use Rattle.pairs.specs.inner.Pairs.{pairs_of}
use Rattle.equality.proofs.RunLaws.{RunsInvariant}
use Rattle.equality.proofs.walk.compare_runs.Given as goal

abbrev pub invariant-loop-k : goal.invariant-loop-k
invariant-loop-k l = RunsInvariant l.a l.b l.ends.lower l.ends.upper l.ra l.rb l.records_a l.records_b l.counts.n1 l.counts.compared l.j l.k (pairs_of l.repr l.size l.queue l.counts.n l.made) l.trail

abbrev pub decreases-loop-k : goal.decreases-loop-k
decreases-loop-k l = length l.records_b - l.k

abbrev pub invariant-runs : goal.invariant-runs
invariant-runs l = RunsInvariant l.a l.b l.ends.lower l.ends.upper l.ra l.rb l.records_a l.records_b l.counts.n1 l.counts.compared l.j l.k (pairs_of l.repr l.size l.queue l.counts.n l.made) l.trail

abbrev pub decreases-runs : goal.decreases-runs
decreases-runs l = length l.records_a - l.j
