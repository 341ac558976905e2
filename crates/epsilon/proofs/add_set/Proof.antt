-- `add_set` meets its contract: what the members from `q` on still add gives what all add.
use Prim.Native.Nat.{◌-◌}
use mathlib.Core.Path.{◌≡◌}
use lib.ListN.{length}
use Rattle.output.specs.inner.Gathering.{Rest}
use Rattle.sets.specs.inner.Members.{members_from, next_member}
use Rattle.sets.specs.inner.BitSet.{set_at}
use Rattle.sheets.specs.Sheet.{read}
use Rattle.epsilon.specs.Eliminate.{ranges_from}
use Rattle.epsilon.proofs.Gathering.{set_laws}
use Rattle.epsilon.proofs.add_set.Statement.{statement}
use Rattle.epsilon.proofs.add_set.Tie as tie

abbrev invariant-loop-q : tie.invariant-loop-q
invariant-loop-q s starts set part₀ f₀ q₀ part f q =
    (q ≡ next_member (set_at set 0) q) × (length part ≡ length part₀) × Rest part f.sorted f.end (ranges_from (read s) 0 (members_from q (set_at set 0))) (ranges_from (read s) 0 (set_at set 0))

abbrev decreases-loop-q : tie.decreases-loop-q
decreases-loop-q s starts set part₀ f₀ q₀ part f q = 256 - q

pub add_set_spec : {M : Type 1} → statement M
add_set_spec =
    tie.close
    (tie.spec invariant-loop-q decreases-loop-q (λ c κs. search set_laws) (λ c. (search set_laws, search set_laws, search set_laws))
    (λ c. search set_laws) (λ c κs. search set_laws) (λ c κs. search set_laws) (λ c. search set_laws) (λ c. search set_laws) (λ c. search set_laws) (λ c κs. search set_laws) (λ c. search set_laws)
    (λ c. (search set_laws, search set_laws, search set_laws)) (λ c. search set_laws) (λ c. search set_laws))
