-- The whole rings of a series: what is left off, as lists have it and as code does.
use Prim.Native.Nat.{ℕ, zero, suc, ◌-◌}
use mathlib.Core.List.{List, [], ◌∷◌, ◌++◌, drop_last}
use mathlib.Core.Path.{◌≡◌, refl, sym, ◌∙◌, ap}
use native.Mathlib.Omega.{arith}
use borrow.Author.Rules.{rules}
use lib.ListN.{length, take, drop}
use Rattle.marked_series.specs.Series.{whole_rings}

-- without its last element a list is its front
drop_last_take : (w : List ℕ) → drop_last w ≡ take (length w - 1) w
drop_last_take [] = refl
drop_last_take (a ∷ []) = refl
drop_last_take (a ∷ b ∷ w) =
    let z : suc (suc (length w) - 1) ≡ suc (suc (length w)) - 1 = omega arith in
    ap (λ l. a ∷ l) (drop_last_take (b ∷ w)) ∙ ap (λ (k : ℕ). take k (a ∷ b ∷ w)) z

-- and the list that one element was put behind
pub drop_last_append : (w : List ℕ) (x : ℕ) → drop_last (w ++ x ∷ []) ≡ w
drop_last_append [] x = refl
drop_last_append (a ∷ []) x = refl
drop_last_append (a ∷ b ∷ w) x = ap (λ l. a ∷ l) (drop_last_append (b ∷ w) x)

-- the parts of the slice that the code answers
module _ (w : List ℕ) (mark : ℕ) where
  pub whole_all : mark ≡ 0 → w ≡ whole_rings mark w
  unfolding whole_rings
  whole_all e = rw e

  marked : (mark ≡ 0 → ⊥) → whole_rings mark w ≡ drop_last w
  unfolding whole_rings
  marked h = go mark h
    where
      go : (m : ℕ) → (m ≡ 0 → ⊥) → whole_rings m w ≡ drop_last w
      go zero h = absurd (h refl)
      go (suc m) h = refl

  pub whole_none : (mark ≡ 0 → ⊥) → length w ≡ 0 → w ≡ whole_rings mark w
  whole_none h e = go w e ∙ sym (marked h)
    where
      go : (w : List ℕ) → length w ≡ 0 → w ≡ drop_last w
      go [] e = refl
      go (a ∷ w) e = absurd (omega arith)

  pub whole_front : (mark ≡ 0 → ⊥) → take (length w - 1 - 0) (drop 0 w) ≡ whole_rings mark w
  whole_front h =
      let z : length w - 1 - 0 ≡ length w - 1 = omega arith in
      ap (λ (k : ℕ). take k w) z ∙ sym (drop_last_take w) ∙ sym (marked h)

pub ruleset rings_laws = (whole_all, whole_none, whole_front, rules)
