-- `step` meets its contract: what is in `next`, with what the members from `q` on reach, is the step, and the cut found so far with their cuts the next cut.
use Prim.Native.Nat.{◌-◌}
use mathlib.Core.Path.{◌≡◌}
use lib.ListN.{length}
use Rattle.sets.specs.inner.Members.{members_from, next_member}
use Rattle.sets.specs.inner.BitSet.{set_at}
use Rattle.ranges.specs.Cuts.{next_cut}
use Rattle.sheets.specs.Sheet.{read}
use Rattle.words.specs.inner.Gather.{with_reached}
use Rattle.words.specs.Simulation
use Rattle.words.proofs.Stepping.{step_laws}
use Rattle.words.proofs.step.Statement.{statement}
use Rattle.words.proofs.step.Tie as tie

abbrev invariant-loop-q : tie.invariant-loop-q
invariant-loop-q s starts closures current symbol next₀ top found₀ q₀ next found q =
    (length next ≡ length next₀) × (q ≡ next_member (set_at current 0) q)
    × (with_reached (read s) symbol next (members_from q (set_at current 0)) ≡ Simulation.step (read s) (set_at current 0) symbol)
    × (next_cut symbol found (Simulation.outgoing (read s) (members_from q (set_at current 0))) ≡ next_cut symbol top (Simulation.outgoing (read s) (set_at current 0)))

abbrev decreases-loop-q : tie.decreases-loop-q
decreases-loop-q s starts closures current symbol next₀ top found₀ q₀ next found q = 256 - q

pub step_spec : {M : Type 1} → statement M
step_spec =
    tie.close
    (tie.spec invariant-loop-q decreases-loop-q (λ c κs. search step_laws) (λ c κs. search step_laws) (λ c. search step_laws) (λ c. search step_laws)
    (λ c κs. search step_laws) (λ c κs. search step_laws) (λ c. search step_laws) (λ c κs. search step_laws) (λ c. search step_laws)
    (λ c. search step_laws) (λ c. search step_laws) (λ c. search step_laws))
