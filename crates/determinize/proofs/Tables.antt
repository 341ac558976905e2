-- Tables of sets grow at their end: adding a set, and meeting sets one after the other.
use Rattle.std.proofs.Common.{◌≡◌, ◌<◌, ◌≤◌, ◌⊎◌, List, [], ◌∷◌, ◌++◌, length, refl, ap, ◌∙◌, inl, inr, ⊎_elim}
use mathlib.Core.List.Memᴰ
use Rattle.lists.specs.Lists.{◌∈◌, filter}
use Rattle.lists.proofs.Lists.{filter_append, filter_out}
use Rattle.search.specs.Search
use Rattle.search.proofs.Tables
use Rattle.search.proofs.Tables.{Extends}
use Rattle.lists.specs.Index.{index, same}
use Rattle.lists.proofs.Index.{same_decides}
use Rattle.sets.specs.Sets.{Set, is_empty}
use Rattle.sets.proofs.Tables.{In}
use Rattle.determinize.specs.Determinize.{nonempty_of}
use Rattle.determinize.specs.inner.Notes.{add_set, meet_sets}

-- meeting sets
pub meet_nil : (T : List Set) → meet_sets [] T ≡ T
unfolding meet_sets nonempty_of filter Search.meet
meet_nil T = refl

pub meet_cons : (R : Set) (Rs T : List Set) → meet_sets (R ∷ Rs) T ≡ meet_sets Rs (add_set R T)
unfolding meet_sets add_set nonempty_of
meet_cons R Rs T = ap (λ l. Search.meet same l T) (filter_append _ (R ∷ []) Rs) ∙ Tables.meet_append same (nonempty_of (R ∷ [])) (nonempty_of Rs) T

pub meet_extends : (Rs T : List Set) → Extends T (meet_sets Rs T)
unfolding meet_sets
meet_extends Rs T = Tables.meet_extends same (nonempty_of Rs) T

-- what is in the table then was there or is one of them
pub meet_out : (Rs T : List Set) (S : Set) → S ∈ meet_sets Rs T → (S ∈ T) ⊎ (S ∈ Rs)
unfolding meet_sets nonempty_of
meet_out Rs T S m = ⊎_elim inl (λ k. inr (filter_out _ S Rs k).0) (Tables.meet_out same (nonempty_of Rs) T S m)

-- the three cases of adding a set
pub add_empty : (T : List Set) → add_set [] T ≡ T
unfolding add_set meet_sets nonempty_of filter is_empty Search.meet
add_empty T = refl

add_some : (S : Set) (T : List Set) → (S ≡ [] → ⊥) → add_set S T ≡ Search.add same S T
unfolding add_set meet_sets nonempty_of filter is_empty Search.meet
add_some [] T n = absurd (n refl)
add_some (q ∷ S) T n = refl

pub add_known : (S : Set) (T : List Set) → (S ≡ [] → ⊥) → index same S T < length T → add_set S T ≡ T
add_known S T n h = add_some S T n ∙ Tables.add_known same S T h

pub add_new : (S : Set) (T : List Set) → (S ≡ [] → ⊥) → length T ≤ index same S T → add_set S T ≡ T ++ S ∷ []
add_new S T n h = add_some S T n ∙ Tables.add_new same S T h

pub add_extends : (S : Set) (T : List Set) → Extends T (add_set S T)
unfolding add_set
add_extends S T = meet_extends (S ∷ []) T

pub add_in : (S : Set) (T : List Set) → In (add_set S T) S
unfolding add_set meet_sets nonempty_of filter is_empty
add_in [] T = inl refl
add_in (q ∷ S) T = inr (Tables.meet_in same same_decides ((q ∷ S) ∷ []) T (q ∷ S) (Memᴰ.head refl))
