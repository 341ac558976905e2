-- `place_first` meets its contract.
use mathlib.Core.Path.{ap}
use native.Mathlib.Omega.{arith}
use borrow.Author.Rules.{rules}
use lib.ListN.{length, set}
use Rattle.sets.proofs.Places.{place_below, first_placed}
use Rattle.sets.proofs.lookup.place_first.Statement.{statement}
use Rattle.sets.proofs.lookup.place_first.Tie as tie

pub place_first_spec : {M : Type 1} → statement M
place_first_spec =
    tie.close
    (tie.spec (λ c κs. search rules) (λ c. omega (arith, place_below _ _ _ c.start_place.ensures))
    (λ c. omega (arith, place_below _ _ _ c.start_place.ensures, ap length c.requires.0))
    (λ c. search rules)
    (λ c. (
      ap (λ i. set c.args.places.now i 1) c.start_place.ensures,
      first_placed _ _ _ c.requires.0 c.start_place.ensures,
    )))
