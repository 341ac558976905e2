-- Parts of lists and runs of stores, in the terms that code has: `now` of `&s[a..]` is `take (length s - a) (drop a s)`.
use Prim.Native.Nat.{ℕ, suc, ◌+◌, ◌-◌, ◌≤◌, ◌<◌}
use mathlib.Core.List.{List, [], ◌∷◌, ◌++◌}
use mathlib.Core.Path.{◌≡◌, refl, sym, ◌∙◌, ap}
use native.Mathlib.Nat.{le_refl}
use native.Mathlib.Numerals.{add-one}
use native.Mathlib.Omega.{arith}
use lib.ListN.{length, get_or, take, drop, set, length-drop, get_or-append}
use lib.Seq.{drop-cons, take_all, take-suc, sets, sets-eq, set_comm}
use Rattle.lists.specs.Lists.{tabulate}
use Rattle.lists.proofs.Lists.{tabulate_at, length_tabulate, tabulate_end}

-- what is left of a list from an index within it on
pub drop_at : (s : List ℕ) (i : ℕ) → i < length s → drop i s ≡ get_or s i 0 ∷ drop (i + 1) s
drop_at s i h = rw (add-one, drop-cons s i 0)

pub take_more : (s : List ℕ) (i : ℕ) → i < length s → take (i + 1) s ≡ take i s ++ get_or s i 0 ∷ []
take_more s i h = rw (add-one, take-suc s i 0)

-- a part that goes to the end
pub part_all : (k : ℕ) (t : List ℕ) → take (length t - k) (drop k t) ≡ drop k t
part_all k t = take_all (length t - k) (drop k t) (simp length-drop (le_refl (length t - k)))

-- a run of stores after another is one run
pub sets_append : (l v w : List ℕ) (i : ℕ) → sets (sets l i v) (i + length v) w ≡ sets l i (v ++ w)
sets_append l [] w i = ap (λ k. sets l k w) (zero_end i)
  where
    zero_end : (i : ℕ) → i + 0 ≡ i
    zero_end i = omega arith
sets_append l (a ∷ v) w i = ap (λ k. sets (sets (set l i a) (suc i) v) k w) (shift i (length v)) ∙ sets_append (set l i a) v w (suc i)
  where
    shift : (i n : ℕ) → i + suc n ≡ suc i + n
    shift i n = omega arith

-- one store behind a run
pub sets_one : (l v : List ℕ) (i x : ℕ) → set (sets l i v) (i + length v) x ≡ sets l i (v ++ x ∷ [])
sets_one l v i x = sets_append l v (x ∷ []) i

-- a store before a run
pub set_before : (l v : List ℕ) (i j x : ℕ) → j < i → set (sets l i v) j x ≡ sets (set l j x) i v
set_before l [] i j x h = refl
set_before l (a ∷ v) i j x h = set_before (set l i a) v (suc i) j x (omega arith) ∙ ap (λ t. sets t (suc i) v) (set_comm l i j a x (omega arith))

-- a table at the front of a list: one entry more, and its entries
pub table_next : (l : List ℕ) (g : ℕ → ℕ) (n : ℕ) → set (sets l 0 (tabulate n g)) n (g n) ≡ sets l 0 (tabulate (n + 1) g)
table_next l g n =
    let o : 0 + length (tabulate n g) ≡ n = omega (arith, length_tabulate n g) in
    ap (λ i. set (sets l 0 (tabulate n g)) i (g n)) (sym o) ∙ sets_one l (tabulate n g) 0 (g n) ∙ ap (sets l 0) (sym (tabulate_end n g) ∙ ap (λ i. tabulate i g) (sym (add-one n)))

pub table_at : (l : List ℕ) (g : ℕ → ℕ) (n q : ℕ) → n ≤ length l → q < n → get_or (sets l 0 (tabulate n g)) q 0 ≡ g q
table_at l g n q f h =
    let k : length (tabulate n g) ≡ n = length_tabulate n g in
    ap (λ x. get_or x q 0) (sets-eq (tabulate n g) l 0 (omega arith)) ∙ get_or-append (tabulate n g) _ 0 q (omega arith) ∙ tabulate_at n g q 0 h
