-- The tree of unions: what a store in a leaf and the climb from it keep, and that the root has what all leaves have.
use Prim.Native.Nat.{ℕ, zero, suc, ◌+◌, ◌-◌, ◌*◌, ◌/◌, ◌%◌, ◌≤◌, ◌<◌}
use mathlib.Core.Bool.{true, false, ◌||◌}
use mathlib.Core.List.{List, []}
use mathlib.Core.Logic.{⊎_elim}
use mathlib.Core.Path.{◌≡◌, refl, sym, ◌∙◌, ap, ap₂, subst}
use native.Mathlib.Omega.{arith}
use borrow.Author.Rules.{rules}
use borrow.Author.Tests.{eqb-true, eqb-false, ltb-true, ltb-false}
use lib.Dec.{eqb, ltb}
use lib.ListN.{length, replicate, length-replicate, length-set}
use Rattle.lists.proofs.Tests.{test, or_cases, or_left, or_right}
use Rattle.sets.specs.Sets.{has}
use Rattle.sets.specs.inner.BitSet.{set_at}
use Rattle.sets.specs.inner.Words.{put_at, union_at}
use Rattle.sets.proofs.Sets.{has_nil, has_pick, has_below, pick_none}
use Rattle.sets.proofs.BitSet.{at_canon, fresh_at}
use Rattle.sets.proofs.Stores.{put_same, put_other, unioned}
use Rattle.sweep.specs.inner.Tree.{union, Node, Tree, Almost, NodeUpdated, leaf, Climbed, LeafSet}

-- a node is kept where the three rows are
kept : (t u : List ℕ) (k : ℕ) → Node t k → set_at u (4 * k) ≡ set_at t (4 * k) → set_at u (4 * (2 * k)) ≡ set_at t (4 * (2 * k))
    → set_at u (4 * (2 * k + 1)) ≡ set_at t (4 * (2 * k + 1)) → Node u k
kept t u k n a b c = record { joined = a ∙ n.joined ∙ ap₂ union (sym b) (sym c) }

-- `join`
length_row : (t : List ℕ) (o : ℕ) → length (put_at (replicate 4 0) 0 t o) ≡ 4
unfolding put_at
length_row t o = simp length-set (length-replicate {A = ℕ} 4 0)

pub join_done : (t y z u : List ℕ) (k : ℕ) → 1 ≤ k → k < 256 → length t ≡ 2048 → y ≡ put_at (replicate 4 0) 0 t (4 * (2 * k))
    → z ≡ union_at y 0 t (4 * (2 * k + 1)) → u ≡ put_at t (4 * k) z 0 → NodeUpdated t u k
unfolding union
join_done t y z u k l b n f g e =
    let four : length y ≡ 4 = ap length f ∙ length_row t (4 * (2 * k)) in
    let o : (i : ℕ) → (i ≡ k → ⊥) → set_at u (4 * i) ≡ set_at t (4 * i) = λ i d. ap (λ v. set_at v (4 * i)) e ∙ put_other t k z 0 i d in
    let first : set_at y 0 ≡ set_at t (4 * (2 * k)) = ap (λ v. set_at v 0) f ∙ put_same (replicate 4 0) 0 t (4 * (2 * k)) (omega arith) in
    let is_union : set_at z 0 ≡ union (set_at t (4 * (2 * k))) (set_at t (4 * (2 * k + 1))) =
    ap (λ v. set_at v 0) g ∙ unioned y 0 t (4 * (2 * k + 1)) (omega arith) ∙ ap (λ S. union S (set_at t (4 * (2 * k + 1)))) first in
    record {
      node = record {
        joined = ap (λ v. set_at v (4 * k)) e ∙ put_same t (4 * k) z 0 (omega arith) ∙ is_union
            ∙ ap₂ union (sym (o (2 * k) (λ d. omega arith))) (sym (o (2 * k + 1) (λ d. omega arith)));
      };
      others = o;
    }

-- `climb`: the leaves of u are those of t
pub record SameLeaves (t u : List ℕ) : Type 0 where
  pub same : (q : ℕ) → leaf u q ≡ leaf t q

pub climb_begins : (t : List ℕ) → SameLeaves t t
climb_begins t = record { same = λ q. refl }

module _ (t₀ t : List ℕ) (k : ℕ) where
  pub climb_ended : Almost t k → SameLeaves t₀ t → k ≤ 1 → Climbed t₀ t
  climb_ended a s l = record { tree = record { long = a.long; node = λ i g h. a.node i g h (λ e. omega arith) }; leaves = s.same }

  module _ (l : 1 < k) (b : k < 512) (u : List ℕ) (j : NodeUpdated t u (k / 2)) where
    pub climb_next : Almost t k → length u ≡ length t → Almost u (k / 2)
    climb_next a n =
        record {
          long = n ∙ a.long;
          node = λ i g h d.
              ⊎_elim (λ (z : eqb i (k / 2) ≡ true). let e : i ≡ k / 2 = eqb-true _ _ z in subst (Node u) (sym e) j.node)
              (λ (z : eqb i (k / 2) ≡ false).
              let e = eqb-false i (k / 2) z in
              kept t u i (a.node i g h e) (j.others i e) (j.others (2 * i) (λ f. d (omega arith))) (j.others (2 * i + 1) (λ f. d (omega arith))))
              (test (eqb i (k / 2)));
        }

    pub climb_leaves : SameLeaves t₀ t → SameLeaves t₀ u
    unfolding leaf
    climb_leaves s = record { same = λ q. j.others (256 + q) (λ e. omega arith) ∙ s.same q }

pub ruleset climb_laws = (climb_begins, climb_ended, climb_next, climb_leaves, rules)

-- `set_leaf`
module _ (t s u : List ℕ) (q : ℕ) (w : Tree t) (b : q < 256) (e : u ≡ put_at t (4 * (256 + q)) s 0) where
  other : (i : ℕ) → (i ≡ 256 + q → ⊥) → set_at u (4 * i) ≡ set_at t (4 * i)
  other i d = ap (λ v. set_at v (4 * i)) e ∙ put_other t (256 + q) s 0 i d

  pub leaf_almost : length u ≡ length t → Almost u (256 + q)
  leaf_almost n =
      record {
        long = n ∙ w.long;
        node = λ i g h d. kept t u i (w.node i g h) (other i (λ f. omega arith)) (other (2 * i) (λ f. d (omega arith))) (other (2 * i + 1) (λ f. d (omega arith)));
      }

  pub leaf_set : (v : List ℕ) → Climbed u v → LeafSet t v q (set_at s 0)
  unfolding leaf
  leaf_set v c =
      record {
        tree = c.tree;
        here = c.leaves q ∙ ap (λ x. set_at x (4 * (256 + q))) e ∙ put_same t (4 * (256 + q)) s 0 (omega (arith, w.long));
        others = λ p d. c.leaves p ∙ other (256 + p) (λ f. d (omega arith));
      }

pub ruleset leaf_laws = (leaf_almost, leaf_set, rules)

-- the tree as it is made
pub fresh_tree : Tree (replicate 2048 0)
unfolding union
fresh_tree = record {
  long = length-replicate {A = ℕ} 2048 0;
  node = λ k g h. record {
    joined = fresh_at 2048 (4 * k) ∙ sym (ap₂ union (fresh_at 2048 (4 * (2 * k))) (fresh_at 2048 (4 * (2 * k + 1))) ∙ pick_none 256 _ (λ q l. rw (has_nil q)));
  };
}

pub fresh_leaf : (q : ℕ) → leaf (replicate 2048 0) q ≡ []
unfolding leaf
fresh_leaf q = fresh_at 2048 (4 * (256 + q))

-- the root has what the leaves have
module _ (t : List ℕ) (w : Tree t) (x : ℕ) where
  up : (k : ℕ) → 1 ≤ k → k < 256 → x < 256 → has x (set_at t (4 * k)) ≡ (has x (set_at t (4 * (2 * k))) || has x (set_at t (4 * (2 * k + 1))))
  unfolding union
  up k l b n = ap (has x) (w.node k l b).joined ∙ has_pick 256 _ x n

  in_row : (k : ℕ) → has x (set_at t (4 * k)) ≡ true → x < 256
  in_row k h = has_below 256 (set_at t (4 * k)) (at_canon t (4 * k)) x h

  above : (k : ℕ) → 1 < k → k < 512 → has x (set_at t (4 * k)) ≡ true → has x (set_at t (4 * (k / 2))) ≡ true
  above k l b h =
      up (k / 2) (omega arith) (omega arith) (in_row k h)
      ∙ ⊎_elim (λ (z : eqb (k % 2) 0 ≡ true). let e : 2 * (k / 2) ≡ k = omega (arith, eqb-true (k % 2) 0 z) in or_left _ _ (ap (λ i. has x (set_at t (4 * i))) e ∙ h))
      (λ (z : eqb (k % 2) 0 ≡ false). let n = eqb-false (k % 2) 0 z in let e : 2 * (k / 2) + 1 ≡ k = odd k n in or_right (has x (set_at t (4 * (2 * (k / 2))))) _ (ap (λ i. has x (set_at t (4 * i))) e ∙ h))
      (test (eqb (k % 2) 0))
    where
      odd : (k : ℕ) → (k % 2 ≡ 0 → ⊥) → 2 * (k / 2) + 1 ≡ k
      odd k n = omega arith

  climbs : (n k : ℕ) → 1 ≤ k → k < 512 → k ≤ n → has x (set_at t (4 * k)) ≡ true → has x (set_at t 4) ≡ true
  climbs zero k l b m h = absurd (omega arith)
  climbs (suc n) k l b m h =
      ⊎_elim (λ (z : ltb 1 k ≡ true). let d : 1 < k = ltb-true _ _ z in climbs n (k / 2) (omega arith) (omega arith) (omega arith) (above k d b h))
      (λ (z : ltb 1 k ≡ false). let d : k ≤ 1 = ltb-false _ _ z in let e : 4 * k ≡ 4 = omega arith in ap (λ i. has x (set_at t i)) (sym e) ∙ h)
      (test (ltb 1 k))

  abbrev InLeaf : Type 0
  InLeaf = (q : ℕ) × (q < 256) × (has x (leaf t q) ≡ true)

  descends : (n k : ℕ) → 1 ≤ k → k < 512 → 512 ≤ k + n → has x (set_at t (4 * k)) ≡ true → InLeaf
  unfolding leaf
  descends zero k l b m h = absurd (omega arith)
  descends (suc n) k l b m h =
      ⊎_elim
      (λ (z : ltb k 256 ≡ true).
      let d : k < 256 = ltb-true _ _ z in
      ⊎_elim (descends n (2 * k) (omega arith) (omega arith) (omega arith)) (descends n (2 * k + 1) (omega arith) (omega arith) (omega arith))
      (or_cases _ _ (sym (up k l d (in_row k h)) ∙ h)))
      (λ (z : ltb k 256 ≡ false). let d : 256 ≤ k = ltb-false _ _ z in let e : 256 + (k - 256) ≡ k = omega arith in (k - 256, omega arith, ap (λ i. has x (set_at t (4 * i))) e ∙ h))
      (test (ltb k 256))

  pub root_in : (q : ℕ) → q < 256 → has x (leaf t q) ≡ true → has x (set_at t 4) ≡ true
  unfolding leaf
  root_in q b h = climbs (256 + q) (256 + q) (omega arith) (omega arith) (omega arith) h

  pub root_out : has x (set_at t 4) ≡ true → InLeaf
  root_out h = descends 511 1 (omega arith) (omega arith) (omega arith) h
