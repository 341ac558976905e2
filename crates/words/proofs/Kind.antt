-- The least nonzero accept word of a set, and that accept words of 0 and 1 give 0 or 1.
use Prim.Native.Nat.{ℕ, zero, suc, ◌+◌, ◌≤◌, ◌<◌}
use mathlib.Core.Bool.{Bool, true, false, cond, false≢true}
use mathlib.Core.List.{List, [], ◌∷◌}
use mathlib.Core.Logic.{◌⊎◌, inl, inr, ⊎_elim}
use mathlib.Core.Path.{◌≡◌, refl, sym, ◌∙◌, ap}
use native.Mathlib.Nat.{le_refl}
use native.Mathlib.Omega.{arith}
use borrow.Author.Rules.{rules}
use borrow.Author.Tests.{eq-eqb, eqb-true, leb-true, ne_eqb, eqb-false, leb-false, le-leb, lt-leb}
use lib.Dec.{eqb, leb}
use lib.ListN.{get_or, length}
use Rattle.lists.proofs.Tests.{test, or_cases, or_left, or_right}
use Rattle.automata.specs.Automaton.{Automaton}
use Rattle.sets.specs.Sets.{Set, has}
use Rattle.sets.specs.inner.Members.{Canon, members_from, next_member}
use Rattle.sets.specs.inner.BitSet.{set_at}
use Rattle.sets.proofs.Sets.{has_below}
use Rattle.sets.proofs.BitSet.{at_canon}
use Rattle.sets.proofs.Members.{visit_start, visit_has, visit_next, from_end}
use Rattle.sheets.specs.inner.Accepted.{Accepted}
use Rattle.sheets.specs.Sheet.{state_count, read}
use Rattle.sheets.proofs.Words.{accept_at}
use Rattle.words.specs.Simulation.{least, kind_of}
use Rattle.words.proofs.Visiting.{member_here, member_later}

-- the lesser kind, where one is not 0
least_left : (a b : ℕ) → 0 < a → (0 < least a b) × (least a b ≤ a)
unfolding least
least_left a b h =
    rw (ne_eqb a 0 (λ e. omega arith))
    (⊎_elim (λ (e : eqb b 0 ≡ true). rw e (h, le_refl a))
    (λ (f : eqb b 0 ≡ false).
    rw f
    (⊎_elim (λ (t : leb a b ≡ true). rw t (h, le_refl a))
    (λ (t : leb a b ≡ false). rw t (let u : b < a = leb-false a b t in let z = eqb-false b 0 f in (pos z, omega arith)))
    (test (leb a b))))
    (test (eqb b 0)))
  where
    pos : (b ≡ 0 → ⊥) → 0 < b
    pos z = omega arith

least_right : (a b : ℕ) → 0 < b → (0 < least a b) × (least a b ≤ b)
unfolding least
least_right a b h =
    ⊎_elim (λ (e : eqb a 0 ≡ true). rw e (h, le_refl b))
    (λ (f : eqb a 0 ≡ false).
    rw (f, ne_eqb b 0 (λ e. omega arith))
    (⊎_elim (λ (t : leb a b ≡ true). rw t (pos (eqb-false a 0 f), leb-true a b t)) (λ (t : leb a b ≡ false). rw t (h, le_refl b))
    (test (leb a b))))
    (test (eqb a 0))
  where
    pos : (a ≡ 0 → ⊥) → 0 < a
    pos z = omega arith

least_one : (a b : ℕ) → (least a b ≡ a) ⊎ (least a b ≡ b)
unfolding least
least_one a b = go (eqb a 0) (eqb b 0) (leb a b)
  where
    go : (x y z : Bool) → (cond x b (cond y a (cond z a b)) ≡ a) ⊎ (cond x b (cond y a (cond z a b)) ≡ b)
    go true y z = inr refl
    go false true z = inl refl
    go false false true = inl refl
    go false false false = inr refl

module _ (A : Automaton) where
  pub kind_of_least : (S : Set) (q : ℕ) → has q S ≡ true → 0 < get_or A.accept q 0 → (0 < kind_of A S) × (kind_of A S ≤ get_or A.accept q 0)
  unfolding kind_of has
  kind_of_least [] q h k = absurd (false≢true h)
  kind_of_least (x ∷ S) q h k =
      ⊎_elim (λ c. let e : q ≡ x = eqb-true q x c in rw e (least_left _ (kind_of A S) (rw e at k)))
      (λ c.
      let ih = kind_of_least S q c k in
      let r = least_right (get_or A.accept x 0) (kind_of A S) ih.0 in
      (r.0, omega (arith, r.1, ih.1)))
      (or_cases (eqb q x) (has q S) h)

  pub kind_of_some : (S : Set) → 0 < kind_of A S → (q : ℕ) × (has q S ≡ true) × (get_or A.accept q 0 ≡ kind_of A S)
  unfolding kind_of has
  kind_of_some [] h = absurd (omega arith)
  kind_of_some (x ∷ S) h =
      ⊎_elim (λ (e : least (get_or A.accept x 0) (kind_of A S) ≡ get_or A.accept x 0). (x, or_left _ _ (eq-eqb x x refl), sym e))
      (λ (e : least (get_or A.accept x 0) (kind_of A S) ≡ kind_of A S).
      let r = kind_of_some S (rw e at h) in
      (r.0, or_right (eqb r.0 x) _ r.1, r.2 ∙ sym e))
      (least_one (get_or A.accept x 0) (kind_of A S))

-- the lesser of three, in either order
least_zero : (a : ℕ) → least a 0 ≡ a
unfolding least
least_zero zero = refl
least_zero (suc a) = rw (ne_eqb (suc a) 0 (λ e. omega arith))

least_first : (a b : ℕ) → 0 < a → a ≤ b → least a b ≡ a
unfolding least
least_first a b h l = rw (ne_eqb a 0 (λ e. omega arith), ne_eqb b 0 (λ e. omega arith), le-leb a b l)

least_second : (a b : ℕ) → 0 < b → b ≤ a → least a b ≡ b
least_second a b h l = ⊎_elim (λ t. let e : a ≤ b = leb-true a b t in let c : a ≡ b = omega arith in rw c (least_first b b h (le_refl b))) (λ t. strict (leb-false a b t)) (test (leb a b))
  where
    strict : b < a → least a b ≡ b
    strict k = unfold least in rw (ne_eqb a 0 (λ e. omega arith), ne_eqb b 0 (λ e. omega arith), lt-leb a b k)

pub least_assoc : (a b c : ℕ) → least (least a b) c ≡ least a (least b c)
least_assoc zero b c = unfold least in refl
least_assoc (suc a) zero c = ap (λ x. least x c) (least_zero (suc a)) ∙ ap (least (suc a)) (unfold least in refl)
least_assoc (suc a) (suc b) zero = least_zero _ ∙ ap (least (suc a)) (sym (least_zero (suc b)))
least_assoc (suc a) (suc b) (suc c) = go (test (leb a b)) (test (leb b c))
  where
    go : (leb a b ≡ true) ⊎ (leb a b ≡ false) → (leb b c ≡ true) ⊎ (leb b c ≡ false) → least (least (suc a) (suc b)) (suc c) ≡ least (suc a) (least (suc b) (suc c))
    go (inl x) (inl y) =
        let m : a ≤ b = leb-true a b x in
        let n : b ≤ c = leb-true b c y in
        rw (least_first (suc a) (suc b) (omega arith) (omega arith), least_first (suc b) (suc c) (omega arith) (omega arith), least_first (suc a) (suc b) (omega arith) (omega arith)) (least_first (suc a) (suc c) (omega arith) (omega arith))
    go (inl x) (inr y) =
        let m : a ≤ b = leb-true a b x in
        let n : c < b = leb-false b c y in
        rw (least_first (suc a) (suc b) (omega arith) (omega arith), least_second (suc b) (suc c) (omega arith) (omega arith)) refl
    go (inr x) (inl y) =
        let m : b < a = leb-false a b x in
        let n : b ≤ c = leb-true b c y in
        rw (least_second (suc a) (suc b) (omega arith) (omega arith), least_first (suc b) (suc c) (omega arith) (omega arith)) (sym (least_second (suc a) (suc b) (omega arith) (omega arith)))
    go (inr x) (inr y) =
        let m : b < a = leb-false a b x in
        let n : c < b = leb-false b c y in
        rw (least_second (suc a) (suc b) (omega arith) (omega arith), least_second (suc b) (suc c) (omega arith) (omega arith)) (sym (least_second (suc a) (suc c) (omega arith) (omega arith)))

-- the members of a set that the code holds, one after the other
module _ (s set : List ℕ) (a : Accepted s) where
  pub kind_begins : (q : ℕ) → q ≡ next_member (set_at set 0) 0 → least 0 (kind_of (read s) (members_from q (set_at set 0))) ≡ kind_of (read s) (set_at set 0)
  unfolding least
  kind_begins q e = ap (kind_of (read s)) (visit_start (set_at set 0) (at_canon set 0) q e)

  module _ (n : Canon (state_count s) (set_at set 0)) (q : ℕ) (h : q ≡ next_member (set_at set 0) q) (l : q < 256) where
    pub kind_inside : q + 3 < length s
    kind_inside = let b = has_below (state_count s) (set_at set 0) n q (visit_has (set_at set 0) (at_canon set 0) q h l) in omega (arith, a.whole)

    pub kind_next : (b m x : ℕ) → least b (kind_of (read s) (members_from q (set_at set 0))) ≡ kind_of (read s) (set_at set 0) → m ≡ least b (get_or s (q + 3) 0) → x ≡ next_member (set_at set 0) (q + 1)
        → least m (kind_of (read s) (members_from x (set_at set 0))) ≡ kind_of (read s) (set_at set 0)
    unfolding kind_of
    kind_next b m x i e k =
        let w : get_or (read s).accept q 0 ≡ get_or s (q + 3) 0 = sym (accept_at s q (has_below (state_count s) (set_at set 0) n q (visit_has (set_at set 0) (at_canon set 0) q h l))) in
        ap (λ y. least y (kind_of (read s) (members_from x (set_at set 0)))) (e ∙ ap (least b) (sym w)) ∙ least_assoc b _ _
        ∙ ap (λ R. least b (kind_of (read s) R)) (sym (visit_next (set_at set 0) (at_canon set 0) q x h l k)) ∙ i

  pub kind_ended : (q b : ℕ) → least b (kind_of (read s) (members_from q (set_at set 0))) ≡ kind_of (read s) (set_at set 0) → 256 ≤ q → b ≡ kind_of (read s) (set_at set 0)
  unfolding kind_of
  kind_ended q b i h = sym (least_zero b) ∙ ap (λ R. least b (kind_of (read s) R)) (sym (from_end (set_at set 0) (at_canon set 0) q h)) ∙ i

pub ruleset kind_laws = (kind_begins, kind_inside, kind_next, kind_ended, member_here, member_later, rules)
