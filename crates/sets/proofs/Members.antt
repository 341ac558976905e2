-- The members of a set in ascending order, one after the other.
use Prim.Native.Nat.{ℕ, zero, suc, ◌+◌, ◌≤◌, ◌<◌}
use mathlib.Core.Bool.{Bool, true, false, cond, false≢true}
use mathlib.Core.List.Memᴰ
use mathlib.Core.List.{[], ◌∷◌}
use mathlib.Core.Logic.{◌⊎◌, inl, inr, ⊎_elim}
use mathlib.Core.Path.{◌≡◌, refl, sym, ◌∙◌, ap, ap₂, subst}
use native.Mathlib.Nat.{eq-or-lt_of_le}
use native.Mathlib.Omega.{arith}
use borrow.Author.Tests.{le-leb, lt-leb, leb-true, ltb-true, ltb-false}
use lib.Dec.{leb, ltb}
use lib.ListN.{get_or}
use Rattle.lists.specs.Lists.{◌∈◌, filter}
use Rattle.lists.proofs.Lists.{filter_ext, filter_all, filter_none, filter_out}
use Rattle.lists.proofs.Tests.{test, true_same}
use Rattle.sets.specs.Sets.{Set, has, pick_from}
use Rattle.sets.specs.inner.Members.{Canon, members_from, next_member}
use Rattle.sets.proofs.Sets.{mem_has, pick_out, has_below}

-- a stretch without members
pub from_skip : (S : Set) (q m : ℕ) → q ≤ m → ((x : ℕ) → q ≤ x → x < m → has x S ≡ false) → members_from q S ≡ members_from m S
unfolding members_from
from_skip S q m l h =
    filter_ext (leb q) (leb m) S
    (λ x i.
    true_same _ _
    (λ t.
    let a : q ≤ x = leb-true q x t in
    ⊎_elim (λ c. absurd (false≢true (sym (h x a (ltb-true x m c)) ∙ mem_has i))) (λ c. le-leb m x (ltb-false x m c)) (test (ltb x m)))
    (λ t. let a : m ≤ x = leb-true m x t in le-leb q x (omega arith)))

here : (k n : ℕ) (P : ℕ → Bool) (q : ℕ) → k ≤ q → q < k + n → P q ≡ true → filter (leb q) (pick_from k n P) ≡ q ∷ filter (leb (q + 1)) (pick_from k n P)
unfolding filter pick_from
here k zero P q l u h = absurd (omega arith)
here k (suc n) P q l u h =
    ⊎_elim
    (λ (e : k ≡ q).
    rw (ap P e ∙ h, le-leb q k (omega arith), lt-leb (q + 1) k (omega arith))
    (ap₂ ◌∷◌ e
    (filter_ext (leb q) (leb (q + 1)) (pick_from (suc k) n P)
    (λ x i. let b : suc k ≤ x = (pick_out (suc k) n P x (mem_has i)).0 in le-leb q x (omega arith) ∙ sym (le-leb (q + 1) x (omega arith))))))
    (λ (e : k < q). past e (P k) (here (suc k) n P q e (omega arith) h))
    (eq-or-lt_of_le l)
  where
    R : Set
    R = pick_from (suc k) n P

    past : k < q → (b : Bool) → filter (leb q) R ≡ q ∷ filter (leb (q + 1)) R → filter (leb q) (cond b (k ∷ R) R) ≡ q ∷ filter (leb (q + 1)) (cond b (k ∷ R) R)
    past e true ih = rw (lt-leb q k (omega arith), lt-leb (q + 1) k (omega arith)) ih
    past e false ih = ih

least : (k n : ℕ) (P : ℕ → Bool) (p x : ℕ) → k ≤ x → x < k + n → P x ≡ true → p ≤ x → get_or (filter (leb p) (pick_from k n P)) 0 256 ≤ x
unfolding filter pick_from
least k zero P p x l u h g = absurd (omega arith)
least k (suc n) P p x l u h g =
    ⊎_elim (λ (e : k ≡ x). rw (ap P e ∙ h, le-leb p k (omega arith)) (omega arith)) (λ (e : k < x). past (P k) (least (suc k) n P p x e (omega arith) h g))
    (eq-or-lt_of_le l)
  where
    R : Set
    R = pick_from (suc k) n P

    first : (b : Bool) → get_or (filter (leb p) R) 0 256 ≤ x → get_or (cond b (k ∷ filter (leb p) R) (filter (leb p) R)) 0 256 ≤ x
    first true ih = l
    first false ih = ih

    past : (b : Bool) → get_or (filter (leb p) R) 0 256 ≤ x → get_or (filter (leb p) (cond b (k ∷ R) R)) 0 256 ≤ x
    past true ih = first (leb p k) ih
    past false ih = ih

first_of : (l : Set) → (get_or l 0 256 ∈ l) ⊎ (l ≡ [])
first_of [] = inr refl
first_of (x ∷ l) = inl (Memᴰ.head refl)

pub from_all : (S : Set) → members_from 0 S ≡ S
unfolding members_from
from_all S = filter_all (leb 0) S (λ x i. le-leb 0 x (omega arith))

module _ (S : Set) (c : Canon 256 S) where
  -- a member is the first of those from it on
  pub from_here : (q : ℕ) → has q S ≡ true → members_from q S ≡ q ∷ members_from (q + 1) S
  unfolding members_from
  from_here q h =
      subst (λ (R : Set). filter (leb q) R ≡ q ∷ filter (leb (q + 1)) R) c
      (here 0 256 (λ x. has x S) q (omega arith) (let b = has_below 256 S c q h in omega arith) h)

  pub from_end : (q : ℕ) → 256 ≤ q → members_from q S ≡ []
  unfolding members_from
  from_end q l = filter_none (leb q) S (λ x i. let b = has_below 256 S c x (mem_has i) in lt-leb q x (omega arith))

  -- the next member is a member, or 256 stands for none
  pub next_cases : (q : ℕ) → ((has (next_member S q) S ≡ true) × (q ≤ next_member S q)) ⊎ ((next_member S q ≡ 256) × (members_from q S ≡ []))
  unfolding next_member members_from
  next_cases q =
      ⊎_elim (λ m. let r = filter_out (leb q) _ S m in inl (mem_has r.0, leb-true q _ r.1)) (λ e. inr (ap (λ l. get_or l 0 256) e, e))
      (first_of (filter (leb q) S))

  -- nothing lies between
  pub next_least : (q x : ℕ) → has x S ≡ true → q ≤ x → next_member S q ≤ x
  unfolding next_member members_from
  next_least q x h l =
      subst (λ (R : Set). get_or (filter (leb q) R) 0 256 ≤ x) c
      (least 0 256 (λ x. has x S) q x (omega arith) (let b = has_below 256 S c x h in omega arith) h l)

  pub next_above : (q : ℕ) → q ≤ 256 → q ≤ next_member S q
  next_above q l = ⊎_elim (λ r. r.1) (λ r. omega (arith, r.0)) (next_cases q)

  -- from q on to the next member
  next_from : (q : ℕ) → members_from q S ≡ members_from (next_member S q) S
  next_from q =
      ⊎_elim
      (λ r.
      from_skip S q _ r.1
      (λ x a b. ⊎_elim (λ t. let n = next_least q x t a in absurd (omega arith)) (λ t. t) (test (has x S))))
      (λ r. r.1 ∙ sym (from_end _ (omega (arith, r.0))))
      (next_cases q)

  -- A loop `q = next(0); while q < 256 { ..; q = next(q + 1) }` goes through the members: at its head q is the next member from itself on,
  -- and `members_from q S` is what is left.
  pub visit_start : (q : ℕ) → q ≡ next_member S 0 → members_from q S ≡ S
  visit_start q e = ap (λ x. members_from x S) e ∙ sym (next_from 0) ∙ from_all S

  pub visit_here : (p q : ℕ) → q ≡ next_member S p → q ≡ next_member S q
  unfolding next_member
  visit_here p q e = e ∙ ap (λ l. get_or l 0 256) (next_from p) ∙ ap (λ x. next_member S x) (sym e)

  pub visit_has : (q : ℕ) → q ≡ next_member S q → q < 256 → has q S ≡ true
  visit_has q e l = ⊎_elim (λ r. ap (λ x. has x S) e ∙ r.0) (λ r. let d = r.0 in absurd (omega arith)) (next_cases q)

  pub visit_next : (q x : ℕ) → q ≡ next_member S q → q < 256 → x ≡ next_member S (q + 1) → members_from q S ≡ q ∷ members_from x S
  visit_next q x e l n = from_here q (visit_has q e l) ∙ ap (λ L. q ∷ L) (next_from (q + 1) ∙ ap (λ y. members_from y S) (sym n))
