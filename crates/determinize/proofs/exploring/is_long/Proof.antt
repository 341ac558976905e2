-- `is_long` meets its contract.
use Rattle.std.proofs.Common.{◌≡◌, ◌+◌, ◌-◌, ◌≤◌}
use Rattle.sets.specs.inner.Members.{members_from, next_member}
use Rattle.sets.specs.inner.BitSet.{set_at}
use Rattle.determinize.specs.inner.Attempts.{run_lengths}
use Rattle.determinize.proofs.Attempts.{long_laws}
use Rattle.determinize.proofs.exploring.is_long.Statement.{statement}
use Rattle.determinize.proofs.exploring.is_long.Tie as tie

abbrev invariant-loop-q : tie.invariant-loop-q
invariant-loop-q starts set words₀ q₀ words q =
    (q ≡ next_member (set_at set 0) q) × (words ≤ 320) × (words + run_lengths starts (members_from q (set_at set 0)) ≡ run_lengths starts (set_at set 0))

abbrev decreases-loop-q : tie.decreases-loop-q
decreases-loop-q starts set words₀ q₀ words q = 256 - q

pub is_long_spec : {M : Type 1} → statement M
is_long_spec =
    tie.close
    (tie.spec invariant-loop-q decreases-loop-q (λ c κs. search long_laws) (λ c. search long_laws) (λ c κs. search long_laws) (λ c. search long_laws) (λ c. search long_laws)
    (λ c. search long_laws) (λ c. search long_laws) (λ c κs. search long_laws) (λ c. search long_laws) (λ c. search long_laws) (λ c. search long_laws))
