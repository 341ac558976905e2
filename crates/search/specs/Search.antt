-- The table of all that a start leads to, in the order in which a queue meets it.
use Rattle.std.specs.Prelude.{ℕ, zero, suc, Bool, cond, List, [], ◌∷◌, ◌++◌, ltb, get_or, length}
unfoldable pub use Rattle.lists.specs.Index.{index}

-- an element that the table lacks goes to its end
unfoldable pub add : {X : Type 0} → (X → X → Bool) → X → List X → List X
add same x T = cond (ltb (index same x T) (length T)) T (T ++ x ∷ [])

-- the table after some elements are met, one after the other
unfoldable pub meet : {X : Type 0} → (X → X → Bool) → List X → List X → List X
meet same [] T = T
meet same (x ∷ xs) T = meet same xs (add same x T)

-- what each element leads to, in order, and a start; `same` tells whether two elements are equal
pub record Graph (X : Type 0) : Type 0 where
  pub same : X → X → Bool
  pub next : X → List X
  pub start : X

-- the finished table, or none because it has too many entries
pub data SearchResult (X : Type 0) : Type 0 where
  over : SearchResult X
  found : List X → SearchResult X

-- the entries of the table are the queue: entry i is next, and n entries may still be taken
unfoldable pub explore : {X : Type 0} → Graph X → ℕ → ℕ → List X → SearchResult X
explore G zero i T = over
explore G (suc n) i T =
    let more = explore G n (suc i) (meet G.same (G.next (get_or T i G.start)) T) in
    cond (ltb i (length T)) more (found T)

-- the table from the start on; `over` where it has more than `most` entries
unfoldable pub table : {X : Type 0} → Graph X → ℕ → SearchResult X
table G most = explore G (suc most) 0 (G.start ∷ [])
