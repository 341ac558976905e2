-- The exact condition of each refusal, on every value of the struct. Assumes nothing.
use Prim.Native.Nat.{ℕ, zero, suc, ◌+◌, ◌≤◌, ◌<◌}
use mathlib.Core.Path.{◌≡◌, refl, sym, ap, subst, ◌∙◌}
use mathlib.Core.Bool.{Bool, true, false, cond}
use mathlib.Core.Logic.{◌⊎◌, inl, inr, ◌↔◌}
use mathlib.Core.List.{List}
use native.Mathlib.Decide.{ℕ_discrete, dec_lt}
use native.Mathlib.Omega.{arith}
use lib.Dec.{leb, ltb, eqb}
use lib.ListN.{length, get_or}
use borrow.Author.Tests.{lt-ltb, le-ltb, le-leb, lt-leb, eq-eqb, ne_eqb, ltb-true, leb-true, eqb-true, eqb-false}
use Rattle.dsu.specs.declared.DSU.{DSU}
use Rattle.dsu.specs.declared.FindAnswer.{FindAnswer}
use Rattle.dsu.specs.declared.SetsAnswer.{SetsAnswer}
use Rattle.dsu.specs.Sets.{Seen, top, up, fault, seen, Way, broken, reached, point, onward, walk, way, find_of, After, under, join, join_second, join_first, union_in, made_of, union_of, new_of}
use Rattle.dsu.specs.Laws.{class_of}
use Rattle.dsu.specs.Refusals.{found_number, outcome_number, OnWay, here, next, Fault, many, outside, small, no_size}
use Rattle.dsu.specs.Refusals.{large, Broken, TooLarge, BrokenUnion, first, second, joint, NewRefusals, FindRefusals, UnionRefusals}
use Rattle.dsu.proofs.WayLeads.{WayLeads, after, leads_start, leads_way, leads_class, way_leads, after_leads, after_back}
use Rattle.dsu.proofs.Ways.{fault_top, fault_up, seen_many, seen_none, seen_over, at_top, at_up, way_fault, way_up}

-- a call that gets past 23: refused with 24 where P holds, and as it was, or passed
data Answers (P : Type 0) (number : ℕ) (Unchanged : Type 0) : Type 0 where
  refused : P → number ≡ 24 → Unchanged → Answers P number Unchanged
  passed : (P → ⊥) → number ≡ 0 → Answers P number Unchanged

module _ {P U : Type 0} {k : ℕ} where
  never_23 : Answers P k U → k ≡ 23 → ⊥
  never_23 (refused p e u) q = omega arith
  never_23 (passed p e) q = omega arith

  just_24 : Answers P k U → (k ≡ 24) ↔ P
  just_24 (refused p e u) = (λ q. p, λ q. e)
  just_24 (passed p e) = (λ q. absurd (omega arith), λ q. absurd (p q))

  as_it_was : Answers P k U → (k ≡ 0 → ⊥) → U
  as_it_was (refused p e u) h = u
  as_it_was (passed p e) h = absurd (h e)

module _ (d : DSU) where
  abbrev l : List ℕ
  l = d.repr

  abbrev z : List ℕ
  z = d.size

  abbrev n : ℕ
  n = d.n

  -- a fault at x is seen there, and what is seen as a fault is one
  unseen : (x : ℕ) → (seen l z n x ≡ top → ⊥) → (seen l z n x ≡ up → ⊥) → seen l z n x ≡ fault
  unseen x not_top not-up = by_seen (seen l z n x) refl
    where
      by_seen : (s : Seen) → seen l z n x ≡ s → seen l z n x ≡ fault
      by_seen top e = absurd (not_top e)
      by_seen up e = absurd (not-up e)
      by_seen fault e = e

  fault_seen : (x : ℕ) → x < n → Fault d x → seen l z n x ≡ fault
  fault_seen x i (many h) = seen_many l z n x h
  fault_seen x i (no_size h) = seen_none l z n x h
  fault_seen x i (large h) = seen_over l z n x h
  fault_seen x i (outside h) = unseen x (λ e. omega (arith, (at_top l z n x i e).1)) (λ e. omega (arith, (at_up l z n x e).1.inside))
  fault_seen x i (small h g) = unseen x (λ e. h (at_top l z n x i e).1) (λ e. omega (arith, (at_up l z n x e).1.grows))

  seen_fault : (x : ℕ) → seen l z n x ≡ fault → Fault d x
  unfolding seen
  seen_fault x e =
      by_test (ltb 512 n) (λ t. many (ltb-true 512 n t)) (λ _.
      by_test (eqb (get_or z x 0) 0) (λ t. no_size (eqb-true (get_or z x 0) 0 t)) (λ _.
      by_test (ltb n (get_or z x 0)) (λ t. large (ltb-true n (get_or z x 0) t)) (λ _.
      by_root (eqb (get_or l x 0) x) (λ r.
      by_test (leb n (get_or l x 0)) (λ t. outside (leb-true n (get_or l x 0) t)) (λ _.
      by_test (leb (get_or z (get_or l x 0) 0) (get_or z x 0)) (λ t. small (eqb-false (get_or l x 0) x r) (leb-true (get_or z (get_or l x 0) 0) (get_or z x 0) t)) (λ _ q. absurd (fault_up (sym q)))))))) e
    where
      by_test : (b : Bool) {s : Seen} → (b ≡ true → Fault d x) → (b ≡ false → s ≡ fault → Fault d x) → cond b fault s ≡ fault → Fault d x
      by_test true f g e = f refl
      by_test false f g e = g refl e

      by_root : (b : Bool) {s : Seen} → (b ≡ false → s ≡ fault → Fault d x) → cond b top s ≡ fault → Fault d x
      by_root true g e = absurd (fault_top (sym e))
      by_root false g e = g refl e

  -- a way is broken just where there is a fault on it
  fault_breaks : {x y : ℕ} → x < n → OnWay d x y → Fault d y → way l z n x ≡ broken
  fault_breaks {x} i here f = way_fault l z n x (fault_seen x i f)
  fault_breaks {x} i (next h o) f = by_seen (λ j. fault_breaks j o f) (seen l z n x) refl
    where
      by_seen : (get_or l x 0 < n → way l z n (get_or l x 0) ≡ broken) → (s : Seen) → seen l z n x ≡ s → way l z n x ≡ broken
      by_seen ih top e = absurd (h (at_top l z n x i e).1)
      by_seen ih up e = way_up l z n x e ∙ ap (point x) (ih (at_up l z n x e).1.inside)
      by_seen ih fault e = way_fault l z n x e

  walk_broken : (k x : ℕ) → n < k + get_or z x 0 → walk k l z n x ≡ broken → Broken d x
  unfolding walk
  walk_broken zero x b e = record { at = x; on = here; fault = large (omega arith) }
  walk_broken (suc k) x b e = by_seen (λ h q. walk_broken k (get_or l x 0) h q) (seen l z n x) refl e
    where
      by_way : (w : Way) → point x w ≡ broken → w ≡ broken
      by_way broken q = refl
      by_way (reached a m) q = let v : ◌≡◌ {A = ℕ} 0 1 = cc in absurd (omega arith)

      by_seen : (n < k + get_or z (get_or l x 0) 0 → walk k l z n (get_or l x 0) ≡ broken → Broken d (get_or l x 0)) → (s : Seen) → seen l z n x ≡ s
          → onward x l s (walk k l z n (get_or l x 0)) ≡ broken → Broken d x
      by_seen ih top t q = let v : ◌≡◌ {A = ℕ} 0 1 = cc in absurd (omega arith)
      by_seen ih up t q =
          let h = (at_up l z n x t).1 in
          let w = ih (omega (arith, h.grows)) (by_way (walk k l z n (get_or l x 0)) q) in
          record { at = w.at; on = next h.apart w.on; fault = w.fault }
      by_seen ih fault t q = record { at = x; on = here; fault = seen_fault x t }

  way_broken : (x : ℕ) → x < n → (way l z n x ≡ broken) ↔ Broken d x
  unfolding way
  way_broken x i = (λ e. walk_broken (suc n) x (omega arith) e, λ w. fault_breaks i w.on w.fault)

  not_broken : (x a : ℕ) (m : List ℕ) → x < n → way l z n x ≡ reached a m → Broken d x → ⊥
  not_broken x a m i e w = let q = (way_broken x i).1 w in let v : ◌≡◌ {A = ℕ} 0 1 = cc in omega arith

  -- `find` of an element inside
  find_answers : (x : ℕ) → x < n → Answers (Broken d x) (found_number (find_of d x).found) ((find_of d x).sets ≡ d)
  unfolding find_of
  find_answers x i = by_way (way l z n x) refl
    where
      by_way : (w : Way) → way l z n x ≡ w → Answers (Broken d x) (found_number (find_of d x).found) ((find_of d x).sets ≡ d)
      by_way broken e = refused ((way_broken x i).0 e) (rw (lt-leb n x i, e)) (rw (lt-leb n x i, e))
      by_way (reached a m) e = passed (not_broken x a m i e) (rw (lt-leb n x i, e))

  find_outside : (x : ℕ) → n ≤ x → (found_number (find_of d x).found ≡ 23) × ((find_of d x).sets ≡ d)
  unfolding find_of
  find_outside x h = (rw (le-leb n x h), rw (le-leb n x h))

  -- `union` of two elements inside. An array of the struct has 512 elements
  module _ (long : length d.repr ≡ 512) (x y : ℕ) (x_in : x < n) (y_in : y < n) where
    -- of what a union left in the arrays
    abbrev UnionAnswers : After → Type 0
    UnionAnswers u = let r = made_of d u.0 u.1 u.2 in Answers (BrokenUnion d x y) (outcome_number r.outcome) (r.sets ≡ d)

    union_ways : (w : Way) → way l z n x ≡ w → join_first l z n y w ≡ union_in l z n x y
    unfolding union_in
    union_ways w e = rw (lt-leb n x x_in, lt-leb n y y_in, e)

    -- the way of x leads to a; then that of y, with the parents afterwards
    module _ (a : ℕ) (t : WayLeads l z n x a) where
      after_ways : (w : Way) → way (after t) z n y ≡ w → join_second (after t) z n a w ≡ union_in l z n x y
      after_ways w e = ap (join_second (after t) z n a) (sym e) ∙ union_ways (reached a (after t)) (leads_way t)

      fits : n ≤ length l
      fits = omega (arith, long, (leads_start t).few)

      -- a fault on the way of y is one with either parents
      after_broken : way (after t) z n y ≡ broken → Broken d y
      after_broken e = by_way (way l z n y) refl
        where
          by_way : (w : Way) → way l z n y ≡ w → Broken d y
          by_way broken q = (way_broken y y_in).0 q
          by_way (reached b m) q =
              let r = leads_way (after_leads fits t (way_leads l z n y b m y_in q)) in
              let v : ◌≡◌ {A = ℕ} 0 1 = cc in absurd (omega arith)

      -- that of y leads to b
      module _ (b : ℕ) (s : WayLeads (after t) z n y b) where
        y_leads : WayLeads l z n y b
        y_leads = after_back fits t s

        no_fault : (TooLarge d x y → ⊥) → BrokenUnion d x y → ⊥
        no_fault h (first w) = not_broken x a (after t) x_in (leads_way t) w
        no_fault h (second w) = not_broken y b (after y_leads) y_in (leads_way y_leads) w
        no_fault h (joint w) = h w

        by_size : (TooLarge d x y → ⊥) → (c : Bool) → UnionAnswers (cond c (under (after s) z b a) (under (after s) z a b))
        by_size o true = passed (no_fault o) refl
        by_size o false = passed (no_fault o) refl

        join_answers : UnionAnswers (join (after s) z n a b)
        unfolding join
        join_answers = by_class (leads_class t) (leads_class y_leads) (ℕ_discrete a b) (dec_lt n (get_or z a 0 + get_or z b 0))
          where
            by_class : class_of d x ≡ a → class_of d y ≡ b → Dec (a ≡ b) → Dec (n < get_or z a 0 + get_or z b 0) → UnionAnswers (join (after s) z n a b)
            by_class ea eb (yes e) o = rw (eq-eqb a b e) (passed (no_fault (λ w. w.apart (ea ∙ e ∙ sym eb))) refl)
            by_class ea eb (no h) (yes o) = rw (ne_eqb a b h, lt-ltb n (get_or z a 0 + get_or z b 0) o) (refused (joint (record { apart = λ e. h (sym ea ∙ e ∙ eb); over = rw (ea, eb) o })) refl refl)
            by_class ea eb (no h) (no o) = rw (ne_eqb a b h, le-ltb n (get_or z a 0 + get_or z b 0) (omega arith)) (by_size (λ w. o (rw (ea, eb) at w.over)) (ltb (get_or z a 0) (get_or z b 0)))

    union_answers : UnionAnswers (union_in l z n x y)
    union_answers = by_first (way l z n x) refl
      where
        by_second : (a : ℕ) (t : WayLeads l z n x a) (w : Way) → way (after t) z n y ≡ w → UnionAnswers (union_in l z n x y)
        by_second a t broken e = subst UnionAnswers (after_ways a t broken e) (refused (second (after_broken a t e)) refl refl)
        by_second a t (reached b m) e = let s = way_leads (after t) z n y b m y_in e in subst UnionAnswers (after_ways a t (reached b (after s)) (leads_way s)) (join_answers a t b s)

        by_first : (w : Way) → way l z n x ≡ w → UnionAnswers (union_in l z n x y)
        by_first broken e = subst UnionAnswers (union_ways broken e) (refused (first ((way_broken x x_in).0 e)) refl refl)
        by_first (reached a m) e = let t = way_leads l z n x a m x_in e in by_second a t (way (after t) z n y) refl

  union_outside : (x y : ℕ) → (n ≤ x) ⊎ (n ≤ y) → (outcome_number (union_of d x y).outcome ≡ 23) × ((union_of d x y).sets ≡ d)
  unfolding union_of union_in
  union_outside x y o = by_place (dec_lt x n) o
    where
      by_place : Dec (x < n) → (n ≤ x) ⊎ (n ≤ y) → (outcome_number (union_of d x y).outcome ≡ 23) × ((union_of d x y).sets ≡ d)
      by_place (no h) o = let i : n ≤ x = omega arith in (rw (le-leb n x i), rw (le-leb n x i))
      by_place (yes i) (inl h) = absurd (omega arith)
      by_place (yes i) (inr h) = (rw (lt-leb n x i, le-leb n y h), rw (lt-leb n x i, le-leb n y h))

pub find_refusals : (d : DSU) (x : ℕ) (r : FindAnswer) → r ≡ find_of d x → FindRefusals d x r
find_refusals d x r e = subst (FindRefusals d x) (sym e) (by_place (dec_lt x d.n))
  where
    by_place : Dec (x < d.n) → FindRefusals d x (find_of d x)
    by_place (yes i) = let w = find_answers d x i in record {
      is_23 = (λ q. absurd (never_23 w q), λ h. absurd (omega arith));
      is_24 = (λ q. (i, (just_24 w).0 q), λ h. (just_24 w).1 h.1);
      unchanged = as_it_was w;
    }
    by_place (no h) = let w = find_outside d x (omega arith) in record {
      is_23 = (λ q. omega arith, λ q. w.0);
      is_24 = (λ q. absurd (omega (arith, w.0)), λ q. absurd (omega (arith, q.0)));
      unchanged = λ q. w.1;
    }

pub union_refusals : (d : DSU) (x y : ℕ) (r : SetsAnswer) → r ≡ union_of d x y → length d.repr ≡ 512 → UnionRefusals d x y r
unfolding union_of
union_refusals d x y r e long = subst (UnionRefusals d x y) (sym e) (by_place (dec_lt x d.n) (dec_lt y d.n))
  where
    not_in : (d.n ≤ x) ⊎ (d.n ≤ y) → x < d.n → y < d.n → ⊥
    not_in (inl h) i j = omega arith
    not_in (inr h) i j = omega arith

    out : (d.n ≤ x) ⊎ (d.n ≤ y) → UnionRefusals d x y (union_of d x y)
    out o = let w = union_outside d x y o in record {
      is_23 = (λ q. o, λ q. w.0);
      is_24 = (λ q. absurd (omega (arith, w.0)), λ q. absurd (not_in o q.0 q.1));
      unchanged = λ q. w.1;
    }

    by_place : Dec (x < d.n) → Dec (y < d.n) → UnionRefusals d x y (union_of d x y)
    by_place (yes i) (yes j) = let w = union_answers d long x y i j in record {
      is_23 = (λ q. absurd (never_23 w q), λ o. absurd (not_in o i j));
      is_24 = (λ q. (i, j, (just_24 w).0 q), λ h. (just_24 w).1 h.2);
      unchanged = as_it_was w;
    }
    by_place (yes i) (no k) = out (inr (omega arith))
    by_place (no h) k = out (inl (omega arith))

pub new_refusals : (n : ℕ) (r : SetsAnswer) → r ≡ new_of n → NewRefusals n r
unfolding new_of
new_refusals n r e = subst (NewRefusals n) (sym e) (by_place (dec_lt 512 n))
  where
    by_place : Dec (512 < n) → NewRefusals n (new_of n)
    by_place (yes h) = rw (lt-ltb 512 n h) (record { is_23 = (λ q. h, λ q. refl); is_24 = λ q. omega arith })
    by_place (no h) = rw (le-ltb 512 n (omega arith)) (record { is_23 = (λ q. absurd (omega arith), λ q. absurd (h q)); is_24 = λ q. omega arith })
