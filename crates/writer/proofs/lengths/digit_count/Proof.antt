-- `digit_count` meets its contract: each turn takes one digit away.
use Prim.Native.Nat.{◌+◌}
use mathlib.Core.Path.{◌≡◌}
use lib.ListN.{length}
use Rattle.decimal.specs.Decimal.{digits}
use Rattle.writer.proofs.Counting.{digit_laws}
use Rattle.writer.proofs.lengths.digit_count.Statement.{statement}
use Rattle.writer.proofs.lengths.digit_count.Tie as tie

abbrev invariant-loop-v : tie.invariant-loop-v
invariant-loop-v x n₀ v₀ n v = (n + length (digits v) ≡ 1 + length (digits x))

abbrev decreases-loop-v : tie.decreases-loop-v
decreases-loop-v x n₀ v₀ n v = v

pub digit_count_spec : {M : Type 1} → statement M
digit_count_spec =
    tie.close
    (tie.spec
    invariant-loop-v decreases-loop-v (λ c. search digit_laws) (λ c. search digit_laws) (λ c. search digit_laws) (λ c. search digit_laws) (λ c. search digit_laws))
