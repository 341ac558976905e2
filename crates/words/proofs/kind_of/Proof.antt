-- `kind_of` meets its contract: `kind`, with the accept words of the members from `q` on, gives the least.
use Prim.Native.Nat.{◌-◌}
use mathlib.Core.Path.{◌≡◌}
use Rattle.sets.specs.inner.Members.{members_from, next_member}
use Rattle.sets.specs.inner.BitSet.{set_at}
use Rattle.sheets.specs.Sheet.{read}
use Rattle.words.specs.Simulation.{kind_of}
use Rattle.words.specs.Simulation
use Rattle.words.proofs.Kind.{kind_laws}
use Rattle.words.proofs.kind_of.Statement.{statement}
use Rattle.words.proofs.kind_of.Tie as tie

abbrev invariant-loop-q : tie.invariant-loop-q
invariant-loop-q s set kind₀ q₀ kind q = (q ≡ next_member (set_at set 0) q) × (Simulation.least kind (kind_of (read s) (members_from q (set_at set 0))) ≡ kind_of (read s) (set_at set 0))

abbrev decreases-loop-q : tie.decreases-loop-q
decreases-loop-q s set kind₀ q₀ kind q = 256 - q

pub kind_of_spec : {M : Type 1} → statement M
kind_of_spec =
    tie.close
    (tie.spec invariant-loop-q decreases-loop-q (λ c κs. search kind_laws) (λ c. search kind_laws) (λ c. search kind_laws) (λ c. search kind_laws)
    (λ c. search kind_laws) (λ c κs. search kind_laws) (λ c. search kind_laws) (λ c κs. search kind_laws) (λ c. search kind_laws)
    (λ c. search kind_laws) (λ c. search kind_laws))
