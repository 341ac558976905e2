-- `climb` meets its contract.
use Prim.Native.Nat.{◌≤◌, ◌<◌}
use Rattle.sweep.specs.inner.Tree.{Almost}
use Rattle.sweep.proofs.Trees.{SameLeaves, climb_laws}
use Rattle.sweep.proofs.uniting.climb.Statement.{statement}
use Rattle.sweep.proofs.uniting.climb.Tie as tie

abbrev invariant-loop-k : tie.invariant-loop-k
invariant-loop-k tree₀ i k₀ tree k = (1 ≤ k) × (k < 512) × Almost tree k × SameLeaves tree₀ tree

abbrev decreases-loop-k : tie.decreases-loop-k
decreases-loop-k tree₀ i k₀ tree k = k

pub climb_spec : {M : Type 1} → statement M
climb_spec =
    tie.close
    (tie.spec invariant-loop-k decreases-loop-k (λ c. search climb_laws) (λ c κs. search climb_laws) (λ c. search climb_laws) (λ c. search climb_laws)
    (λ c. search climb_laws) (λ c. search climb_laws))
