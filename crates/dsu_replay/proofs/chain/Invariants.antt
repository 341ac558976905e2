-- Each turn stores one word more in both arrays.
use Rattle.dsu_replay.proofs.Chains.{Counted}
use Rattle.dsu_replay.proofs.chain.Given as goal

abbrev pub invariant-loop-i : goal.invariant-loop-i
invariant-loop-i l = Counted l.repr l.i × Counted l.size l.i
