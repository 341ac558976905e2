-- `intersect_accepted` meets its contract: the runs are found first, and either table has a byte for each word of two states.
use Rattle.std.proofs.Common.{arith, refl}
use Rattle.product.proofs.Making.{runs_ready}
use Rattle.product.proofs.intersect_accepted.Goals as goal

pub intersect_within-requires : goal.intersect_within-requires
intersect_within-requires c =
    let s = c.requires in (
      runs_ready _ _ _ s.0 c.run_starts.ensures refl,
      runs_ready _ _ _ s.1 c.run_starts-2.ensures refl,
      omega (arith, s.0.few_states),
      omega arith,
      s.2,
      s.3,
    )

pub intersect_within-requires-2 : goal.intersect_within-requires-2
intersect_within-requires-2 c =
    let s = c.requires in (
      runs_ready _ _ _ s.0 c.run_starts.ensures refl,
      runs_ready _ _ _ s.1 c.run_starts-2.ensures refl,
      omega arith,
      omega arith,
      s.2,
      s.3,
    )
