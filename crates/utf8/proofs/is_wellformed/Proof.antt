-- `utf8::is_wellformed` meets its contract: the text is wellformed where what is left of it is.
use Prim.Native.Nat.{◌-◌, ◌≤◌}
use mathlib.Core.Path.{◌≡◌}
use borrow.Author.Rules.{rules}
use lib.ListN.{length, drop}
use Rattle.utf8.specs.inner.Steps.{wellformed}
use Rattle.utf8.proofs.Wellformed.{wellformed_loop}
use Rattle.utf8.proofs.is_wellformed.Statement.{statement}
use Rattle.utf8.proofs.is_wellformed.Tie as tie

abbrev invariant-loop-to : tie.invariant-loop-to
invariant-loop-to text at₀ at = (at ≤ length text) × (wellformed text ≡ wellformed (drop at text))

abbrev decreases-loop-to : tie.decreases-loop-to
decreases-loop-to text at₀ at = length text - at

pub is_wellformed_spec : {M : Type 1} → statement M
is_wellformed_spec =
    tie.close
    (tie.spec
    invariant-loop-to decreases-loop-to (λ c. search rules) (λ c κs. search rules) (λ c. search rules) (λ c. search wellformed_loop) (λ c. search wellformed_loop)
    (λ c. search rules) (λ c. search wellformed_loop) (λ c. search rules) (λ c. search wellformed_loop))
