-- `read_text` meets its contract: the text from `at` on is left to read.
use Prim.Native.Nat.{◌-◌, ◌≤◌}
use mathlib.Core.Bool.{true}
use mathlib.Core.Path.{◌≡◌}
use lib.ListN.{length, drop}
use Rattle.sets.specs.inner.Members.{Canon}
use Rattle.sets.specs.inner.BitSet.{set_at}
use Rattle.sheets.specs.Sheet.{state_count, read}
use Rattle.utf8.specs.Utf8.{decode}
use Rattle.utf8.specs.inner.Steps.{wellformed}
use Rattle.words.specs.inner.Acceptance.{points_of}
use Rattle.words.specs.Simulation.{simulate}
use Rattle.words.proofs.Answers.{text_laws}
use Rattle.words.proofs.read_text.Statement.{statement}
use Rattle.words.proofs.read_text.Tie as tie

abbrev invariant-loop-at : tie.invariant-loop-at
invariant-loop-at s starts closures text current₀ at₀ current at = (at ≤ length text) × (length current ≡ length current₀) × Canon (state_count s) (set_at current 0) × (wellformed (drop at text) ≡ true) × (simulate (read s) (set_at current 0) (points_of (decode (drop at text))) ≡ simulate (read s) (set_at current₀ 0) (points_of (decode text)))

abbrev decreases-loop-at : tie.decreases-loop-at
decreases-loop-at s starts closures text current₀ at₀ current at = length text - at

pub read_text_spec : {M : Type 1} → statement M
read_text_spec =
    tie.close
    (tie.spec invariant-loop-at decreases-loop-at (λ c. search text_laws) (λ c κs. search text_laws) (λ c. search text_laws) (λ c. search text_laws)
    (λ c κs. search text_laws) (λ c. search text_laws) (λ c κs. search text_laws) (λ c. search text_laws) (λ c. search text_laws)
    (λ c. search text_laws) (λ c. search text_laws) (λ c. search text_laws) (λ c. search text_laws) (λ c. search text_laws)
    (λ c. search text_laws) (λ c. search text_laws) (λ c. search text_laws))
