-- Tables grow at their end: adding an element, and meeting some one after the other.
use Prim.Native.Nat.{ℕ, ◌+◌, ◌≤◌, ◌<◌}
use mathlib.Core.Bool.{Bool, true, false, cond, ◌&&◌, ◌||◌}
use mathlib.Core.List.{List, [], ◌∷◌, ◌++◌, append_assoc, append-nil}
use mathlib.Core.List.Memᴰ
use mathlib.Core.Logic.{◌⊎◌, inl, inr, ⊎_elim}
use mathlib.Core.Path.{◌≡◌, refl, sym, ◌∙◌, ap}
use native.Mathlib.Omega.{arith}
use borrow.Author.Tests.{ltb-true, ltb-false, lt-ltb, le-ltb}
use lib.Dec.{ltb}
use lib.ListN.{get_or, length, take, length-append, get_or-append}
use lib.Seq.{take_all, take-append-le, length-take-le}
use Rattle.lists.specs.Lists.{◌∈◌, any, all}
use Rattle.lists.specs.Index.{index}
use Rattle.lists.proofs.Every.{all_in, all_out}
use Rattle.lists.proofs.Index.{Decides}
use Rattle.lists.proofs.Lists.{any_in, any_out}
use Rattle.lists.proofs.Members.{distinct_end}
pub use Rattle.lists.proofs.Index.{index_before, index_behind, same_no, index_in, index_lt, index_at, index_place}
use Rattle.lists.proofs.Tests.{test, true_same, and_both, and_parts, or_cases, or_left, or_right}
use Rattle.search.specs.Search.{Graph, add, meet}
use Rattle.search.proofs.Reached.{Reached, ReachedElements}

-- U is T with some entries behind it
pub record Extends {X : Type 0} (T U : List X) : Type 0 where
  pub rest : List X
  pub is : U ≡ T ++ rest

module _ {X : Type 0} where
  pub extends_refl : (T : List X) → Extends T T
  extends_refl T = record { rest = []; is = sym (append-nil T) }

  pub extends_trans : {T U W : List X} → Extends T U → Extends U W → Extends T W
  extends_trans {T} p q = record { rest = p.rest ++ q.rest; is = q.is ∙ ap (λ l. l ++ q.rest) p.is ∙ append_assoc T p.rest q.rest }

  pub extends_in : {T U : List X} → Extends T U → (x : X) → x ∈ T → x ∈ U
  extends_in p x m = rw p.is (Memᴰ.append_left p.rest m)

  pub extends_at : {T U : List X} → Extends T U → (d : X) (j : ℕ) → j < length T → get_or U j d ≡ get_or T j d
  extends_at {T} p d j h = rw p.is (get_or-append T p.rest d j h)

  pub extends_length : {T U : List X} → Extends T U → length T ≤ length U
  extends_length {T} p = rw (p.is, length-append) (omega arith)

module _ {X : Type 0} (same : X → X → Bool) where
  -- the two cases of adding an element
  pub add_known : (x : X) (T : List X) → index same x T < length T → add same x T ≡ T
  unfolding add
  add_known x T h = rw (lt-ltb (index same x T) (length T) h)

  pub add_new : (x : X) (T : List X) → length T ≤ index same x T → add same x T ≡ T ++ x ∷ []
  unfolding add
  add_new x T h = rw (le-ltb (index same x T) (length T) h)

  add_extends : (x : X) (T : List X) → Extends T (add same x T)
  unfolding add
  add_extends x T = go (ltb (index same x T) (length T))
    where
      go : (b : Bool) → Extends T (cond b T (T ++ x ∷ []))
      go true = extends_refl T
      go false = record { rest = x ∷ []; is = refl }

  -- at most one more
  pub add_length : (x : X) (T : List X) → length (add same x T) ≤ length T + 1
  unfolding add
  add_length x T = go (ltb (index same x T) (length T))
    where
      go : (b : Bool) → length (cond b T (T ++ x ∷ [])) ≤ length T + 1
      go true = omega arith
      go false = omega (arith, length-append T (x ∷ []))

  add_out : (y : X) (T : List X) (x : X) → x ∈ add same y T → (x ∈ T) ⊎ (x ≡ y)
  unfolding add
  add_out y T x = go (ltb (index same y T) (length T))
    where
      go : (b : Bool) → x ∈ cond b T (T ++ y ∷ []) → (x ∈ T) ⊎ (x ≡ y)
      go true m = inl m
      go false m = ⊎_elim inl (λ k. inr (Memᴰ.eq_of_singleton k)) (Memᴰ.append_cases T m)

  pub meet_extends : (xs T : List X) → Extends T (meet same xs T)
  unfolding meet
  meet_extends [] T = extends_refl T
  meet_extends (x ∷ xs) T = extends_trans (add_extends x T) (meet_extends xs (add same x T))

  -- what is met was there or is among those
  pub meet_out : (xs T : List X) (x : X) → x ∈ meet same xs T → (x ∈ T) ⊎ (x ∈ xs)
  unfolding meet
  meet_out [] T x m = inl m
  meet_out (y ∷ xs) T x m =
      ⊎_elim (λ k. ⊎_elim inl (λ (e : x ≡ y). inr (Memᴰ.head e)) (add_out y T x k)) (λ k. inr (Memᴰ.tail k)) (meet_out xs (add same y T) x m)

  pub meet_append : (xs ys T : List X) → meet same (xs ++ ys) T ≡ meet same ys (meet same xs T)
  unfolding meet
  meet_append [] ys T = refl
  meet_append (x ∷ xs) ys T = meet_append xs ys (add same x T)

  -- with room for k entries only, what is met behind them is lost
  pub meet_full : (k : ℕ) (xs T : List X) → length T ≡ k → take k (meet same xs T) ≡ T
  meet_full k xs T h = let x = meet_extends xs T in ap (take k) x.is ∙ take-append-le k T x.rest (omega arith) ∙ take_all k T (omega arith)

  pub meet_capped : (k : ℕ) (xs T : List X) → take k (meet same xs (take k T)) ≡ take k (meet same xs T)
  meet_capped k xs T =
      ⊎_elim
      (λ (t : ltb k (length T) ≡ true).
      let h = ltb-true k (length T) t in
      let x = meet_extends xs T in
      meet_full k xs (take k T) (length-take-le k T (omega arith)) ∙ sym (ap (take k) x.is ∙ take-append-le k T x.rest (omega arith)))
      (λ (t : ltb k (length T) ≡ false). ap (λ U. take k (meet same xs U)) (take_all k T (ltb-false k (length T) t)))
      (test (ltb k (length T)))

module _ {X : Type 0} (same : X → X → Bool) (ok : Decides same) where
  add_in : (x : X) (T : List X) → x ∈ add same x T
  unfolding add
  add_in x T = go (ltb (index same x T) (length T)) refl
    where
      go : (b : Bool) → ltb (index same x T) (length T) ≡ b → x ∈ cond b T (T ++ x ∷ [])
      go true e = index_in same ok x T (ltb-true _ _ e)
      go false e = Memᴰ.append_right T (Memᴰ.head refl)

  pub meet_in : (xs T : List X) (x : X) → x ∈ xs → x ∈ meet same xs T
  unfolding meet
  meet_in [] T x m = elim m [ ]
  meet_in (y ∷ xs) T x m =
      ⊎_elim (λ (e : x ≡ y). extends_in (meet_extends same xs (add same y T)) x (rw e (add_in y T))) (λ m. meet_in xs (add same y T) x m) (Memᴰ.cases_cons m)

  -- a test of all elements, and of some, after others are met
  pub meet_all : (f : X → Bool) (xs T : List X) → all f (meet same xs T) ≡ (all f T && all f xs)
  meet_all f xs T =
      true_same _ _
      (λ h. and_both _ _ (all_in f T (λ x m. all_out f (extends_in (meet_extends same xs T) x m) h)) (all_in f xs (λ x m. all_out f (meet_in xs T x m) h)))
      (λ h. let (a, b) = and_parts (all f T) (all f xs) h in all_in f _ (λ x m. ⊎_elim (λ i. all_out f i a) (λ i. all_out f i b) (meet_out same xs T x m)))

  pub meet_any : (f : X → Bool) (xs T : List X) → any f (meet same xs T) ≡ (any f T || any f xs)
  meet_any f xs T =
      true_same _ _
      (λ h. let (x, m, t) = any_out f (meet same xs T) h in ⊎_elim (λ i. or_left (any f T) (any f xs) (any_in f i t)) (λ i. or_right (any f T) (any f xs) (any_in f i t)) (meet_out same xs T x m))
      (λ h. ⊎_elim (λ (a : any f T ≡ true). let (x, m, t) = any_out f T a in any_in f (extends_in (meet_extends same xs T) x m) t)
      (λ (a : any f xs ≡ true). let (x, m, t) = any_out f xs a in any_in f (meet_in xs T x m) t) (or_cases (any f T) (any f xs) h))

module _ {X : Type 0} (G : Graph X) (ok : Decides G.same) where
  -- a table of distinct and reached elements stays one
  add_good : (x : X) (T : List X) → ReachedElements G T → Reached G x → ReachedElements G (add G.same x T)
  unfolding add
  add_good x T g r = go (ltb (index G.same x T) (length T)) refl
    where
      go : (b : Bool) → ltb (index G.same x T) (length T) ≡ b → ReachedElements G (cond b T (T ++ x ∷ []))
      go true e = g
      go false e =
          let far : length T ≤ index G.same x T = ltb-false _ _ e in
          record {
            distinct = distinct_end x T g.distinct (λ m. let near = index_lt G.same ok x m in omega arith);
            reached = λ y m. ⊎_elim (g.reached y) (λ k. let e : y ≡ x = Memᴰ.eq_of_singleton k in rw e r) (Memᴰ.append_cases T m);
          }

  pub meet_good : (xs T : List X) → ReachedElements G T → ((x : X) → x ∈ xs → Reached G x) → ReachedElements G (meet G.same xs T)
  unfolding meet
  meet_good [] T g r = g
  meet_good (x ∷ xs) T g r = meet_good xs (add G.same x T) (add_good x T g (r x (Memᴰ.head refl))) (λ y m. r y (Memᴰ.tail m))
