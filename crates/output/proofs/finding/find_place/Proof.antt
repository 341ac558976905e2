-- `find_place` meets its contract: the record is one of the `count` from `at` on, if it is there at all.
use Rattle.output.proofs.Halving.{Among, among_laws}
use Rattle.output.proofs.finding.find_place.Statement.{statement}
use Rattle.output.proofs.finding.find_place.Tie as tie

abbrev invariant-loop-count : tie.invariant-loop-count
invariant-loop-count buf end from kind first last to at₀ count₀ at count = Among buf end (record { from = from; kind = kind; first = first; last = last; to = to }) at count

abbrev decreases-loop-count : tie.decreases-loop-count
decreases-loop-count buf end from kind first last to at₀ count₀ at count = count

pub find_place_spec : {M : Type 1} → statement M
find_place_spec =
    tie.close
    (tie.spec invariant-loop-count decreases-loop-count (λ c. search among_laws) (λ c. search among_laws) (λ c. search among_laws)
    (λ c κs. search among_laws) (λ c. search among_laws) (λ c. search among_laws) (λ c. search among_laws) (λ c. search among_laws))
