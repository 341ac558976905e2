-- The laws of join sets: those who build on them cite these, with a function's contract as the premise. Assumes nothing.
use Rattle.std.proofs.Common.{Result, Ok, Err, ℕ, zero, suc, ◌+◌, ◌≤◌, ◌<◌, ◌≡◌, Bool, true, false, cond, List, [], ◌∷◌, ◌++◌, ltb, length, get_or, replicate, sym, subst, ◌∙◌, arith, length-append, le-ltb, eq-eqb, ne_eqb, refl}
use Rattle.refusal.specs.declared.StateRefusal.{StateRefusal}
use native.Mathlib.Decide.{ℕ_discrete}
use lib.ListN.{length-replicate, get_or-replicate, get_or-append}
use lib.Seq.{get_or_at}
use borrow.Author.Tests.{lt-leb}
use Rattle.dsu.specs.declared.DSU.{DSU}
use Rattle.dsu.specs.declared.FindAnswer.{FindAnswer}
use Rattle.dsu.specs.declared.SetsAnswer.{SetsAnswer}
use Rattle.dsu.specs.Sets.{find_of, After, under, join, union_in, made_of, union_of, up_to, fresh, new_of}
use Rattle.dsu.specs.inner.Lent.{sets_of}
use Rattle.dsu.specs.inner.Steps.{SizedElement}
use Rattle.dsu.specs.Classes.{Classes, before}
use Rattle.dsu.specs.Laws.{class_of, Same, Valid, NewLaw, FindLaw, UnionLaw}
use Rattle.dsu.proofs.Count.{count_one}
use Rattle.dsu.proofs.Classes.{classes_unique, classes_some, classes_moved, classes_alone, Joins, turned, merged_joins, classes_fewer}
use Rattle.dsu.proofs.WayLeads.{WayLeads, here, after, leads_end, leads_way, leads_find, leads_class}
use Rattle.dsu.proofs.Keep.{leads_to_class, after_valid, after_class}
use Rattle.dsu.proofs.Merge.{Apart, two_fit, merged_class, merged_valid}

-- new

up_to_long : (k : ℕ) → length (up_to k) ≡ k
unfolding up_to
up_to_long zero = refl
up_to_long (suc k) = length-append (up_to k) (k ∷ []) ∙ omega (arith, up_to_long k)

up_to_at : (k i : ℕ) → i < k → get_or (up_to k) i 0 ≡ i
unfolding up_to
up_to_at zero i h = absurd (omega arith)
up_to_at (suc k) i h = by_place (λ c. up_to_at k i c) (ℕ_discrete i k)
  where
    by_place : (i < k → get_or (up_to k) i 0 ≡ i) → Dec (i ≡ k) → get_or (up_to k ++ k ∷ []) i 0 ≡ i
    by_place ih (yes e) = get_or_at (up_to k) k [] 0 i (up_to_long k ∙ sym e) ∙ sym e
    by_place ih (no e) = get_or-append (up_to k) (k ∷ []) 0 i (omega (arith, up_to_long k)) ∙ ih (omega arith)

module _ (k n : ℕ) (few : n ≤ 512) (in-k : n ≤ k) where
  abbrev begun : DSU
  begun = sets_of (up_to k) (replicate k 1) n

  ones : (x : ℕ) → x < n → ◌≡◌ {A = ℕ} (get_or (replicate k 1) x 0) 1
  ones x h = get_or-replicate k x 1 0 (omega arith)

  own_class : (x : ℕ) → x < n → class_of begun x ≡ x
  own_class x h = leads_class (here (record { few = few; inside = h; some = omega (arith, ones x h); fits = omega (arith, ones x h) }) (up_to_at k x (omega arith)))

  begun_valid : Valid begun
  begun_valid = record {
    few = few;
    long_repr = omega (arith, up_to_long k);
    long_size = omega (arith, length-replicate {A = ℕ} k 1);
    inside = λ x h. omega (arith, up_to_at k x (omega arith));
    grows = λ x h r. absurd (r (up_to_at k x (omega arith)));
    some = λ x h. omega (arith, ones x h);
    fits = λ x h. omega (arith, ones x h);
    counted = λ x h r. ones x h ∙ sym (count_one (class_of begun) x n own_class h);
  }

  begun_alone : (x y : ℕ) → x < n → y < n → Same begun x y → x ≡ y
  begun_alone x y hx hy e = sym (own_class x hx) ∙ e ∙ own_class y hy

pub new_law : (n : ℕ) (r : SetsAnswer) → r ≡ new_of n → n ≤ 512 → NewLaw n r
unfolding new_of fresh
new_law n r e h = subst (NewLaw n) (sym (e ∙ rw (le-ltb 512 n h))) (record {
  done = refl;
  is_n = refl;
  valid = begun_valid 512 n h h;
  alone = begun_alone 512 n h h;
  classes = classes_alone (class_of (begun 512 n h h)) n (begun_alone 512 n h h);
})

-- find

-- two values whose elements are in the same classes
module _ (d s : DSU) (same : (w : ℕ) → w < d.n → class_of s w ≡ class_of d w) where
  same_kept : (p q : ℕ) → p < d.n → q < d.n → Same d p q → Same s p q
  same_kept p q a b e = same p a ∙ e ∙ sym (same q b)

  same_only : (p q : ℕ) → p < d.n → q < d.n → Same s p q → Same d p q
  same_only p q a b e = sym (same p a) ∙ e ∙ same q b

  same_classes : {k : ℕ} → Classes (Same d) d.n k → Classes (Same s) d.n k
  same_classes w = classes_moved same_kept same_only w

pub find_law : (d : DSU) (x : ℕ) (r : FindAnswer) → r ≡ find_of d x → Valid d → x < d.n → FindLaw d x r
find_law d x r e v h =
    let t = leads_to_class d.repr d.size d.n v x h in
    let end = leads_end t in
    subst (FindLaw d x) (sym (e ∙ leads_find t)) (record {
      found = refl;
      inside = end.0.inside;
      member = sym (leads_class (here end.0 end.1));
      is_n = refl;
      valid = after_valid v t;
      kept = after_class v t;
      as_many = λ k w. same_classes d (sets_of (after t) d.size d.n) (after_class v t) w;
    })

-- union

module _ (d : DSU) (x y : ℕ) where
  -- e is d after a union of x and y, by whether the two were apart
  abbrev pub Unites : Result Bool StateRefusal → DSU → Type 0
  Unites (Ok true) e = Valid e × Joins d.n (class_of d) (class_of e) x y
  Unites (Ok false) e = Valid e × Same d x y × ((w : ℕ) → w < d.n → class_of e w ≡ class_of d w)
  Unites (Err r) e = ⊥

  -- the same of what is left in lent arrays
  abbrev pub UnitesIn : After → Type 0
  UnitesIn u = Unites u.0 (sets_of u.1 u.2 d.n)

-- m has the parents after both finds
module _ (d : DSU) (m : List ℕ) (v : Valid (sets_of m d.size d.n)) (same : (w : ℕ) → w < d.n → class_of (sets_of m d.size d.n) w ≡ class_of d w) where
  -- y's root put under x's
  under_joins : (x y : ℕ) → x < d.n → y < d.n → (r : Apart m d.n (class_of d x) (class_of d y)) → UnitesIn d x y (under m d.size (class_of d x) (class_of d y))
  under_joins x y x_in y_in r =
      let c = merged_class m d.size d.n v (class_of d x) (class_of d y) r in (
        merged_valid m d.size d.n v (class_of d x) (class_of d y) r,
        merged_joins x_in y_in r.apart (record {
          moved = λ w h e. c.moved w h (same w h ∙ e);
          left = λ w h e. c.left w h (λ q. e (sym (same w h) ∙ q)) ∙ same w h;
        }),
      )

  module _ (x y : ℕ) (x_in : x < d.n) (y_in : y < d.n) where
    abbrev a : ℕ
    a = class_of d x

    abbrev b : ℕ
    b = class_of d y

    join_unites : SizedElement d.size d.n a × (get_or m a 0 ≡ a) → SizedElement d.size d.n b × (get_or m b 0 ≡ b) → UnitesIn d x y (join m d.size d.n a b)
    unfolding join
    join_unites ra rb = by_same (ℕ_discrete a b)
      where
        by_size : Apart m d.n a b → (t : Bool) → UnitesIn d x y (cond t (under m d.size b a) (under m d.size a b))
        by_size r true =
            let w = under_joins y x y_in x_in (record { a_in = r.b_in; b_in = r.a_in; a_root = r.b_root; b_root = r.a_root; apart = λ q. r.apart (sym q) }) in
            (w.0, turned w.1)
        by_size r false = under_joins x y x_in y_in r

        by_same : Dec (a ≡ b) → UnitesIn d x y (join m d.size d.n a b)
        by_same (yes e) = rw (eq-eqb a b e) (v, e, same)
        by_same (no h) =
            let r : Apart m d.n a b = record { a_in = ra.0.inside; b_in = rb.0.inside; a_root = ra.1; b_root = rb.1; apart = h } in
            rw (ne_eqb a b h, le-ltb d.n (get_or d.size a 0 + get_or d.size b 0) (two_fit m d.size d.n v a b r)) (by_size r (ltb (get_or d.size a 0) (get_or d.size b 0)))

-- the arrays of valid sets after a union
pub union_unites : (d : DSU) (x y : ℕ) → Valid d → x < d.n → y < d.n → UnitesIn d x y (union_in d.repr d.size d.n x y)
unfolding union_in
union_unites d x y v x_in y_in =
    let z = d.size in
    let n = d.n in
    let s = leads_to_class d.repr z n v x x_in in
    let v₁ = after_valid v s in
    let same₁ = after_class v s in
    let t = subst (λ (b : ℕ). WayLeads (after s) z n y b) (same₁ y y_in) (leads_to_class (after s) z n v₁ y y_in) in
    let v₂ = after_valid v₁ t in
    let same₂ : (w : ℕ) → w < n → class_of (sets_of (after t) z n) w ≡ class_of d w = λ w h. after_class v₁ t w h ∙ same₁ w h in
    let end : (w : ℕ) → w < n → SizedElement z n (class_of d w) × (get_or (after t) (class_of d w) 0 ≡ class_of d w) = λ w h. leads_end (subst (WayLeads (after t) z n w) (same₂ w h) (leads_to_class (after t) z n v₂ w h)) in
    let is : union_in d.repr z n x y ≡ join (after t) z n (class_of d x) (class_of d y) = rw (lt-leb n x x_in, lt-leb n y y_in, leads_way s, leads_way t) in
    subst (UnitesIn d x y) (sym is) (join_unites d (after t) v₂ same₂ x y x_in y_in (end x x_in) (end y y_in))

pub union_law : (d : DSU) (x y : ℕ) (r : SetsAnswer) → r ≡ union_of d x y → Valid d → x < d.n → y < d.n → UnionLaw d x y r
unfolding union_of
union_law d x y r e v x_in y_in =
    let u = union_in d.repr d.size d.n x y in
    subst (UnionLaw d x y) (sym e) (by_case u.0 u.1 u.2 (union_unites d x y v x_in y_in))
  where
    by_case : (u : Result Bool StateRefusal) (l z : List ℕ) → Unites d x y u (sets_of l z d.n) → UnionLaw d x y (made_of d u l z)
    by_case (Ok true) l z w = let j = w.1 in record {
      done = refl;
      is_n = refl;
      valid = w.0;
      joined = j.joined;
      kept = j.kept;
      only = j.only;
      fewer = λ h k c. classes_fewer x_in y_in j c;
      as_many = λ h k c. absurd (j.apart h);
    }
    by_case (Ok false) l z w = let s = sets_of l z d.n in record {
      done = refl;
      is_n = refl;
      valid = w.0;
      joined = same_kept d s w.2 x y x_in y_in w.1;
      kept = same_kept d s w.2;
      only = λ p q a b g. before (same_only d s w.2 p q a b g);
      fewer = λ h k c. absurd (h w.1);
      as_many = λ h k c. same_classes d s w.2 c;
    }
    by_case (Err r) l z w = absurd w

-- sets have exactly one number of classes
pub classes_number : (d : DSU) → (k : ℕ) × Classes (Same d) d.n k × ((j : ℕ) → Classes (Same d) d.n j → j ≡ k)
classes_number d = let w = classes_some (class_of d) d.n in (w.0, w.1, λ j v. classes_unique v w.1)
