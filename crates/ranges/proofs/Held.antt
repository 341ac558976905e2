-- Which symbols a range holds, and which symbols are free of ranges.
use Prim.Native.Nat.{ℕ, ◌≤◌, ◌<◌}
use mathlib.Core.Bool.{true, false, false≢true}
use mathlib.Core.List.Memᴰ
use mathlib.Core.List.{List, ◌∷◌}
use mathlib.Core.Logic.{⊎_elim}
use mathlib.Core.Path.{◌≡◌, sym, ◌∙◌}
use borrow.Author.Tests.{le-leb, leb-true, leb-false}
use lib.Dec.{leb}
use Rattle.lists.proofs.Tests.{test, and_parts}
use Rattle.lists.proofs.Members.{ascending_rest}
use Rattle.automata.specs.Automaton.{Transition, holds}
use Rattle.ranges.specs.Missing.{Free, SortedRanges}

pub held : (x : ℕ) (e : Transition) → e.first ≤ x → x ≤ e.last → holds x e ≡ true
unfolding holds
held x e l u = rw (le-leb _ _ l, le-leb _ _ u)

pub holds_ends : (x : ℕ) (e : Transition) → holds x e ≡ true → (e.first ≤ x) × (x ≤ e.last)
unfolding holds
holds_ends x e h = let p = and_parts (leb e.first x) _ h in (leb-true _ _ p.0, leb-true _ _ p.1)

pub not_held : (x : ℕ) (e : Transition) → ((e.first ≤ x) × (x ≤ e.last) → ⊥) → holds x e ≡ false
not_held x e n = ⊎_elim (λ (h : holds x e ≡ true). absurd (n (holds_ends x e h))) (λ h. h) (test (holds x e))

pub past : (x : ℕ) (e : Transition) → holds x e ≡ false → e.first ≤ x → e.last < x
past x e f l = ⊎_elim (λ c. absurd (false≢true (sym f ∙ held x e l (leb-true _ _ c)))) (λ c. leb-false _ _ c) (test (leb x e.last))

pub free_cons : (x : ℕ) (e : Transition) (es : List Transition) → holds x e ≡ false → Free x es → Free x (e ∷ es)
free_cons x e es h f d m = ⊎_elim (λ (q : d ≡ e). rw q h) (λ k. f d k) (Memᴰ.cases_cons m)

pub rest_sorted : {e : Transition} {es : List Transition} → SortedRanges (e ∷ es) → SortedRanges es
rest_sorted p = record { rises = ascending_rest p.rises; full = λ d m. p.full d (Memᴰ.tail m) }
