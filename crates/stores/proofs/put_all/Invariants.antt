-- What is stored so far, with the elements from the index on, gives what all elements give.
use Rattle.std.proofs.Common.{◌≡◌, ◌+◌, drop}
use Rattle.std.proofs.lemmas.List.Edits.{sets}
use Rattle.stores.proofs.put_all.Given as goal

abbrev pub invariant-loop-x : goal.invariant-loop-x
invariant-loop-x g l = (l.end ≡ l.fn.at + l.x-index) × (sets l.out l.end (drop l.x-index l.xs) ≡ sets l.fn.out l.fn.at l.xs)
