-- One round of Warshall's closure in place, on words, and what it does to the sets.
use Prim.Native.Nat.{ℕ, zero, suc, ◌+◌, ◌*◌, ◌≤◌, ◌<◌}
use mathlib.Core.Bool.{Bool, true, false, cond, ◌||◌, or_self}
use mathlib.Core.List.{List}
use mathlib.Core.Logic.{⊎_elim, ◌≢◌}
use mathlib.Core.Path.{◌≡◌, refl, sym, ◌∙◌, ap, ap₂}
use native.Mathlib.Nat.{eq-or-lt_of_le}
use native.Mathlib.Numerals.{add-one}
use native.Mathlib.Omega.{arith}
use borrow.Author.Rules.{rules}
use borrow.Author.Tests.{ltb-true, ltb-false}
use lib.Dec.{ltb}
use lib.ListN.{length}
use Rattle.lists.proofs.Tests.{test}
use Rattle.sets.specs.Sets.{Set, has, pick}
use Rattle.sets.specs.inner.Members.{Canon}
use Rattle.sets.specs.inner.BitSet.{set_at}
use Rattle.sets.specs.inner.Words.{union_at, visit_row, visit_rows}
use Rattle.sets.specs.Closure.{through}
use Rattle.sets.proofs.Sets.{pick_ext, pick_canon}
use Rattle.sets.proofs.Stores.{length_union, unioned_below, union_other}

-- what the loops need
pub visit_done : (t u : List ℕ) (k p : ℕ) (b : Bool) → b ≡ has k (set_at t (4 * p)) → b ≡ true → u ≡ union_at t (4 * p) t (4 * k) → u ≡ visit_row t k p
unfolding visit_row
visit_done t u k p b e h q = q ∙ rw (sym e ∙ h)

pub visit_not : (t : List ℕ) (k p : ℕ) (b : Bool) → b ≡ has k (set_at t (4 * p)) → b ≡ false → t ≡ visit_row t k p
unfolding visit_row
visit_not t k p b e h = rw (sym e ∙ h)

pub length_visit : (t : List ℕ) (k p : ℕ) → length (visit_row t k p) ≡ length t
unfolding visit_row
length_visit t k p = go (has k (set_at t (4 * p)))
  where
    go : (b : Bool) → length (cond b (union_at t (4 * p) t (4 * k)) t) ≡ length t
    go true = length_union t (4 * p) t (4 * k)
    go false = refl

pub length_visits : (t : List ℕ) (k p : ℕ) → length (visit_rows t k p) ≡ length t
unfolding visit_rows
length_visits t k zero = refl
length_visits t k (suc p) = length_visit (visit_rows t k p) k p ∙ length_visits t k p

pub visits_none : (t : List ℕ) (k : ℕ) → t ≡ visit_rows t k 0
unfolding visit_rows
visits_none t k = refl

pub visits_next : (t₀ t u : List ℕ) (k p : ℕ) → t ≡ visit_rows t₀ k p → u ≡ visit_row t k p → u ≡ visit_rows t₀ k (p + 1)
unfolding visit_rows
visits_next t₀ t u k p e q = rw add-one (q ∙ ap (λ x. visit_row x k p) e)

pub visits_all : (t₀ t : List ℕ) (k p n : ℕ) → t ≡ visit_rows t₀ k p → p ≤ n → n ≤ p → t ≡ visit_rows t₀ k n
visits_all t₀ t k p n e l u = e ∙ ap (visit_rows t₀ k) (omega arith)

pub ruleset round_laws = (visit_done, visit_not, visits_none, visits_next, visits_all, length_visit, length_visits, rules)

-- a row that takes in itself stays as it is
pub through_self : (n k : ℕ) (K : Set) → Canon n K → through n k K K ≡ K
unfolding through
through_self n k K c = go (has k K)
  where
    go : (b : Bool) → cond b (pick n (λ q. has q K || has q K)) K ≡ K
    go true = pick_ext 0 n _ _ (λ q l. or_self (has q K)) ∙ c
    go false = refl

pub through_canon : (n k : ℕ) (K R : Set) → Canon n R → Canon n (through n k K R)
unfolding through
through_canon n k K R c = go (has k R)
  where
    go : (b : Bool) → Canon n (cond b (pick n (λ q. has q R || has q K)) R)
    go true = pick_canon n _
    go false = c

-- row j of the table
abbrev pub row : List ℕ → ℕ → Set
row t j = set_at t (4 * j)

visit_other : (t : List ℕ) (k p j : ℕ) → j ≢ p → row (visit_row t k p) j ≡ row t j
unfolding visit_row
visit_other t k p j h = go (has k (row t p))
  where
    go : (c : Bool) → row (cond c (union_at t (4 * p) t (4 * k)) t) j ≡ row t j
    go true = union_other t p t (4 * k) j h
    go false = refl

module _ (n k : ℕ) (small : n ≤ 256) where
  visit_row_lem : (t : List ℕ) (p : ℕ) → 4 * p + 4 ≤ length t → Canon n (row t p) → Canon n (row t k) → row (visit_row t k p) p ≡ through n k (row t k) (row t p)
  unfolding visit_row through
  visit_row_lem t p b cp ck = go (has k (row t p))
    where
      go : (c : Bool) → row (cond c (union_at t (4 * p) t (4 * k)) t) p ≡ cond c (pick n (λ q. has q (row t p) || has q (row t k))) (row t p)
      go true = unioned_below t (4 * p) t (4 * k) n small b cp ck
      go false = refl

  -- the rows of n states after the first m of a round
  module _ (in-n : k < n) (t : List ℕ) (b : 4 * n ≤ length t) (ok : (j : ℕ) → j < n → Canon n (row t j)) where
    pub visits_rows : (m : ℕ) → m ≤ n → ((j : ℕ) → j < m → row (visit_rows t k m) j ≡ through n k (row t k) (row t j)) × ((j : ℕ) → m ≤ j → row (visit_rows t k m) j ≡ row t j)
    unfolding visit_rows
    visits_rows zero h = (λ j l. absurd (omega arith), λ j l. refl)
    visits_rows (suc m) h =
        let ih = visits_rows m (omega arith) in
        let u = visit_rows t k m in
        let len = length_visits t k m in
        let uk : row u k ≡ row t k =
        ⊎_elim (λ c. ih.0 k (ltb-true k m c) ∙ through_self n k (row t k) (ok k in-n)) (λ c. ih.1 k (ltb-false k m c)) (test (ltb k m)) in
        let um : row u m ≡ row t m = ih.1 m (omega arith) in (
          λ j l.
              ⊎_elim
              (λ (q : suc j ≡ suc m).
              let c : j ≡ m = omega arith in
              rw c
              (visit_row_lem u m (omega arith) (rw um (ok m h)) (rw uk (ok k in-n)) ∙ ap₂ (through n k) uk um))
              (λ (q : suc j < suc m). visit_other u k m j (omega arith) ∙ ih.0 j (omega arith))
              (eq-or-lt_of_le l),
          λ j l. visit_other u k m j (omega arith) ∙ ih.1 j (omega arith),
        )
