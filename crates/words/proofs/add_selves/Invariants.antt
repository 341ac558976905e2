-- The rows below `p` have their own numbers.
use Rattle.words.specs.inner.Epsilons.{SelvesAdded}
use Rattle.words.proofs.add_selves.Given as goal

abbrev pub invariant-loop-p : goal.invariant-loop-p
invariant-loop-p l = SelvesAdded l.initial.rows l.rows l.p
