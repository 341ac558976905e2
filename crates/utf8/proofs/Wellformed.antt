-- Wellformed texts: what the test says, and the turns of the loop that makes it.
use Prim.Native.Nat.{ℕ}
use mathlib.Core.Bool.{true, false, false≢true}
use mathlib.Core.List.{List}
use mathlib.Core.Logic.{◌↔◌}
use mathlib.Core.Path.{◌≡◌, refl, sym, ◌∙◌, ap}
use borrow.Author.Rules.{rules}
use lib.ListN.{drop}
use Rattle.utf8.specs.Utf8.{Decoded, malformed, points, cons, decode}
use Rattle.utf8.specs.inner.Steps.{is_points, wellformed, step_at}
use Rattle.utf8.specs.declared.Step.{Step}
use Rattle.utf8.specs.declared.Step.TheVariants.{Point, End, Malformed}
use Rattle.utf8.proofs.Decode.{end_decode, malformed_decode, point_decode, point_within, point_less}

-- a text is wellformed where it has code points
pub wellformed_points : (t : List ℕ) → (wellformed t ≡ true) ↔ ((ps : List ℕ) × (decode t ≡ points ps))
unfolding wellformed
wellformed_points t = (λ e. there (decode t) e, λ r. ap is_points r.1)
  where
    there : (d : Decoded) → is_points d ≡ true → (ps : List ℕ) × (d ≡ points ps)
    there malformed e = absurd (false≢true e)
    there (points ps) e = (ps, refl)

cons_points : (x : ℕ) (d : Decoded) → is_points (cons x d) ≡ is_points d
cons_points x malformed = refl
cons_points x (points ps) = refl

-- s is what `next` answers at the place at of t
module _ (t : List ℕ) (at : ℕ) (s : Step) (told : s ≡ step_at t at) where
  pub point_wellformed : (x to : ℕ) → s ≡ Point x to → wellformed (drop at t) ≡ wellformed (drop to t)
  unfolding wellformed
  point_wellformed x to e = ap is_points (point_decode t at s told x to e) ∙ cons_points x (decode (drop to t))

  -- with the loop's invariant
  module _ (inv : wellformed t ≡ wellformed (drop at t)) where
    pub loop_end : s ≡ End → true ≡ wellformed t
    unfolding wellformed
    loop_end e = sym (inv ∙ ap is_points (end_decode t at s told e))

    pub loop_fault : s ≡ Malformed → false ≡ wellformed t
    unfolding wellformed
    loop_fault e = sym (inv ∙ ap is_points (malformed_decode t at s told e))

    pub loop_point : (x to : ℕ) → s ≡ Point x to → wellformed t ≡ wellformed (drop to t)
    loop_point x to e = inv ∙ point_wellformed x to e

pub ruleset wellformed_loop = (loop_end, loop_fault, loop_point, point_within, point_less, rules)
