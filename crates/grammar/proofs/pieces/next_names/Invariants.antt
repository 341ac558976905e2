-- What the loop of `next_names` keeps: the names from the start end where those from the place end.
use Rattle.std.proofs.Common.{◌≡◌, ◌-◌, length}
use Rattle.grammar.specs.Grammar.{next_names}
use Rattle.grammar.proofs.pieces.next_names.Given as goal

abbrev pub invariant-loop-next : goal.invariant-loop-next
invariant-loop-next l = (next_names l.text l.initial.at).behind ≡ (next_names l.text l.at).behind

abbrev pub decreases-loop-next : goal.decreases-loop-next
decreases-loop-next l = length l.text - l.at
