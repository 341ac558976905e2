-- For inner contracts. The places by which a set is found in a table: 509 words, each of them 0 or a number of the table plus one. A search starts at the place that
-- the bits of the set give and looks onward, past the last place at the first again, to the set or to a place that is free.
use Rattle.std.specs.Prelude.{ℕ, suc, ◌+◌, ◌%◌, ◌^◌, ◌≤◌, ◌<◌, List, [], ◌∷◌, ◌⊎◌, ◌≡◌, ltb, length, get_or}
use Rattle.lists.specs.Lists.{filter}
use Rattle.lists.specs.Index.{index, same}
use Rattle.sets.specs.Sets.{Set}

-- the number whose binary digits say which states the set has
unfoldable pub bits_number : Set → ℕ
bits_number [] = 0
bits_number (q ∷ S) = 2 ^ q + bits_number S

-- the place that a search for S looks at after d others. 509 is a prime of which 2 is a primitive root, so sets of one state each start at places of their own.
unfoldable pub place_after : Set → ℕ → ℕ
place_after S d = (bits_number S + d) % 509

-- the first d places that a search for S looks at hold other sets of T
pub record Passed (p : List ℕ) (T : List Set) (S : Set) (d : ℕ) : Type 0 where
  pub taken : (e : ℕ) → e < d → 0 < get_or p (place_after S e) 0
  pub other : (e j : ℕ) → e < d → get_or p (place_after S e) 0 ≡ suc j → get_or T j [] ≡ S → ⊥

-- a search for the set with the number j comes to its place, and to no free one before
pub record Reached (p : List ℕ) (T : List Set) (j : ℕ) : Type 0 where
  pub distance : ℕ
  pub here : get_or p (place_after (get_or T j []) distance) 0 ≡ suc j
  pub taken : (e : ℕ) → e < distance → 0 < get_or p (place_after (get_or T j []) e) 0

-- the places p lead to each set of the table T and to nothing else, and no more of them are taken than T has sets
pub record Placed (p : List ℕ) (T : List Set) : Type 0 where
  pub long : length p ≡ 509
  pub few : length (filter (ltb 0) p) ≤ length T
  pub number : (i j : ℕ) → get_or p i 0 ≡ suc j → (j < length T) × (index same (get_or T j []) T ≡ j)
  pub reached : (j : ℕ) → j < length T → Reached p T j

-- a search for S ends at the place i, which is free or holds S, and has compared k sets
pub record SearchEnded (p : List ℕ) (T : List Set) (S : Set) (i k : ℕ) : Type 0 where
  pub distance : ℕ
  pub place : i ≡ place_after S distance
  pub passed : Passed p T S distance
  pub last : ((get_or p i 0 ≡ 0) × (k ≡ distance)) ⊎ ((get_or p i 0 ≡ suc (index same S T)) × (k ≡ suc distance))
