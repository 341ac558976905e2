-- What the loop of `transitions` keeps: the transitions from the start end where those from the place end.
use Rattle.std.proofs.Common.{◌≡◌, ◌-◌, length}
use Rattle.grammar.specs.Grammar.{transitions}
use Rattle.grammar.proofs.pieces.transitions.Given as goal

abbrev pub invariant-loop-next : goal.invariant-loop-next
invariant-loop-next l = (transitions l.text l.initial.at).behind ≡ (transitions l.text l.at).behind

abbrev pub decreases-loop-next : goal.decreases-loop-next
decreases-loop-next l = length l.text - l.at
