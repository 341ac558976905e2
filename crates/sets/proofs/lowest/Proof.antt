-- `lowest` meets its contract.
use native.Mathlib.Omega.{arith}
use lib.Count.{trailing_le}
use Rattle.sets.proofs.lowest.Statement.{statement}
use Rattle.sets.proofs.lowest.Tie as tie

pub lowest_spec : {M : Type 1} → statement M
lowest_spec =
    tie.close
    (tie.spec (λ c. omega (arith, trailing_le 64 c.args.w)) (λ c. omega (arith, trailing_le 64 c.args.w)))
