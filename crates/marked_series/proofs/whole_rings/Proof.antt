-- `whole_rings` meets its contract: the part of the slice is the list without its last element.
use Rattle.marked_series.proofs.Rings.{rings_laws}
use Rattle.marked_series.proofs.whole_rings.Statement.{statement}
use Rattle.marked_series.proofs.whole_rings.Tie as tie

pub whole_rings_spec : {M : Type 1} → statement M
whole_rings_spec =
    tie.close
    (tie.spec (λ c. search rings_laws) (λ c. search rings_laws) (λ c. search rings_laws) (λ c. search rings_laws) (λ c. search rings_laws)
    (λ c. search rings_laws) (λ c. search rings_laws))
