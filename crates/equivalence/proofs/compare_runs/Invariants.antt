-- The rows before `j` and `k` have equal triggers, whose targets are joined.
use Rattle.std.proofs.Common.{◌-◌, length}
use Rattle.automata.specs.Records.{read_records}
use Rattle.pairs.specs.inner.Pairs.{pairs_of}
use Rattle.equivalence.proofs.RunLaws.{RunsInvariant}
use Rattle.equivalence.proofs.compare_runs.Given as goal

abbrev pub invariant-loop-j : goal.invariant-loop-j
invariant-loop-j l = RunsInvariant l.n1 (read_records l.ra) (read_records l.rb) l.records_a l.records_b (pairs_of l.initial.repr l.initial.size l.initial.queue l.n l.initial.made) (pairs_of l.repr l.size l.queue l.n l.made) l.j l.k

abbrev pub decreases-loop-j : goal.decreases-loop-j
decreases-loop-j l = length l.records_a - l.j
