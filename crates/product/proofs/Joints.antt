-- The ranges that leave a pair and meet: each joint comes from two of them, and each two that share a symbol make one.
use Rattle.std.proofs.Common.{ℕ, ◌≤◌, ◌<◌, min, max, Bool, true, false, cond, not, ◌||◌, List, [], ◌∷◌, ◌++◌, append_assoc, append-nil, ⊎_elim, None, Some, ◌≡◌, refl, sym, ◌∙◌, ap, subst, arith, le-leb, leb-true, ltb-true, eq-eqb, ne_eqb, leb, ltb, eqb, length}
use mathlib.Core.List.Memᴰ
use borrow.Author.Tests.{lt-leb}
use Rattle.lists.specs.Lists.{◌∈◌, filter}
use Rattle.lists.proofs.Lists.{filter_in, filter_out, filter_append, length_filter}
use Rattle.automata.specs.Automaton.{Transition, Automaton, leaving, ranges_of}
use Rattle.automata.proofs.Leaving.{range_leaves}
use Rattle.ranges.specs.Span.{intersect_ranges}
use Rattle.automata.specs.Pairs.{Pair}
use Rattle.product.specs.Product.{Joint, symbols_of, joint_of, joint, joints_with, joints, joints_of, joints_from}
use Rattle.product.specs.Reached.{Meet}
use Rattle.product.specs.inner.Tables.{ends_before, not_ended}

-- the joint of two ranges that meet
abbrev pub joint_by : Transition → Transition → Joint
joint_by d e = record { span = record { first = max d.first e.first; last = min d.last e.last }; to = record { left = d.to; right = e.to } }

-- where a joint comes from
pub record Of (d e : Transition) (j : Joint) : Type 0 where
  pub meets : max d.first e.first ≤ min d.last e.last
  pub is : j ≡ joint_by d e

pub record Origin (ds es : List Transition) (j : Joint) : Type 0 where
  pub left : Transition
  pub right : Transition
  pub in_left : left ∈ ds
  pub in_right : right ∈ es
  pub of : Of left right j

joint_out : (d e : Transition) (j : Joint) → j ∈ joint d e → Of d e j
unfolding joint joint_of intersect_ranges
joint_out d e j m = go (leb greater_first lesser_last) refl m
  where
    greater_first : ℕ
    greater_first = max d.first e.first

    lesser_last : ℕ
    lesser_last = min d.last e.last

    to : Pair
    to = record { left = d.to; right = e.to }

    go : (b : Bool) → leb greater_first lesser_last ≡ b → j ∈ joint_of (cond b (Some (record { first = greater_first; last = lesser_last })) None) to → Of d e j
    go true h m = record { meets = leb-true greater_first lesser_last h; is = Memᴰ.eq_of_singleton m }
    go false h m = elim m [ ]

joint_in : (d e : Transition) (j : Joint) → Of d e j → j ∈ joint d e
unfolding joint joint_of intersect_ranges
joint_in d e j o = rw (le-leb _ _ o.meets) (Memᴰ.head o.is)

with_out : (d : Transition) (es : List Transition) (j : Joint) → j ∈ joints_with d es → (e : Transition) × e ∈ es × Of d e j
unfolding joints_with
with_out d [] j m = elim m [ ]
with_out d (e ∷ es) j m =
    ⊎_elim (λ k. (e, Memᴰ.head refl, joint_out d e j k)) (λ k. let r = with_out d es j k in (r.0, Memᴰ.tail r.1, r.2))
    (Memᴰ.append_cases (joint d e) m)

with_in : (d : Transition) {e : Transition} {es : List Transition} (j : Joint) → e ∈ es → Of d e j → j ∈ joints_with d es
unfolding joints_with
with_in d {e} {es = c ∷ es} j (Memᴰ.head q) o = Memᴰ.append_left (joints_with d es) (joint_in d c j (subst (λ (x : Transition). Of d x j) q o))
with_in d {e = e} {es = []} j x5 o = elim x5 [ ]
with_in d {es = c ∷ es} j (Memᴰ.tail m) o = Memᴰ.append_right (joint d c) (with_in d j m o)

pub joints_out : (ds es : List Transition) (j : Joint) → j ∈ joints ds es → Origin ds es j
unfolding joints
joints_out [] es j m = elim m [ ]
joints_out (d ∷ ds) es j m =
    ⊎_elim (λ k. let r = with_out d es j k in record { left = d; right = r.0; in_left = Memᴰ.head refl; in_right = r.1; of = r.2 })
    (λ k. let r = joints_out ds es j k in record { left = r.left; right = r.right; in_left = Memᴰ.tail r.in_left; in_right = r.in_right; of = r.of })
    (Memᴰ.append_cases (joints_with d es) m)

pub joints_in : {d e : Transition} {ds es : List Transition} (j : Joint) → d ∈ ds → e ∈ es → Of d e j → j ∈ joints ds es
unfolding joints
joints_in {d = d} {e = e} {ds = []} {es = es} j x8 n o = elim x8 [ ]
joints_in {d} {e} {ds = c ∷ ds} {es} j (Memᴰ.head q) n o =
    Memᴰ.append_left (joints ds es) (with_in c j n (subst (λ (x : Transition). Of x e j) q o))
joints_in {ds = c ∷ ds} {es} j (Memᴰ.tail m) n o = Memᴰ.append_right (joints_with c es) (joints_in j m n o)

-- the ranges that leave a state
pub record RangeFrom (A : Automaton) (p : ℕ) (d : Transition) : Type 0 where
  pub «in» : d ∈ A.transitions
  pub from_is : d.from ≡ p
  pub is_range : d.kind ≡ 1

pub range_out : (A : Automaton) (p : ℕ) (d : Transition) → d ∈ ranges_of (leaving A p) → RangeFrom A p d
range_out A p d m = let (i, c, k) = range_leaves A p d m in record { «in» = i; from_is = c; is_range = k }

pub range_in : {A : Automaton} {p : ℕ} {d : Transition} → RangeFrom A p d → d ∈ ranges_of (leaving A p)
unfolding ranges_of leaving
range_in r = filter_in _ (filter_in _ r.in (eq-eqb _ _ r.from_is)) (eq-eqb _ _ r.is_range)

module _ (A B : Automaton) (p : Pair) where
  -- a joint that leaves a pair: the two ranges, and each symbol of the joint lies in both
  pub record From (j : Joint) : Type 0 where
    pub left : Transition
    pub right : Transition
    pub of : Of left right j
    pub meet : (a : ℕ) → j.span.first ≤ a → a ≤ j.span.last → Meet A B p.left p.right left right a

  pub from_out : (j : Joint) → j ∈ joints_from A B p → From j
  unfolding joints_from joints_of
  from_out j m =
      let r = joints_out _ _ j m in
      let d = range_out A p.left r.left r.in_left in
      let e = range_out B p.right r.right r.in_right in
      let first_is : j.span.first ≡ max r.left.first r.right.first = ap (λ (x : Joint). x.span.first) r.of.is in
      let last_is : j.span.last ≡ min r.left.last r.right.last = ap (λ (x : Joint). x.span.last) r.of.is in
      record {
        left = r.left;
        right = r.right;
        of = r.of;
        meet = λ a l u.
            record {
              left = d.in;
              right = e.in;
              from_left = d.from_is;
              from_right = e.from_is;
              range_left = d.is_range;
              range_right = e.is_range;
              above_left = omega (arith, first_is, l);
              below_left = omega (arith, last_is, u);
              above_right = omega (arith, first_is, l);
              below_right = omega (arith, last_is, u);
            };
      }

  pub from_in : {d e : Transition} {a : ℕ} → Meet A B p.left p.right d e a → joint_by d e ∈ joints_from A B p
  unfolding joints_from joints_of
  from_in {d} {e} {a} m =
      joints_in _ (range_in (record { «in» = m.left; from_is = m.from_left; is_range = m.range_left }))
      (range_in (record { «in» = m.right; from_is = m.from_right; is_range = m.range_right }))
      (record { meets = omega (arith, m.above_left, m.below_left, m.above_right, m.below_right); is = refl })

-- the joints of two runs, record by record
with_append : (d : Transition) (es fs : List Transition) → joints_with d (es ++ fs) ≡ joints_with d es ++ joints_with d fs
unfolding joints_with
with_append d [] fs = refl
with_append d (e ∷ es) fs = ap (λ l. joint d e ++ l) (with_append d es fs) ∙ sym (append_assoc (joint d e) (joints_with d es) (joints_with d fs))

joints_append : (ds cs es : List Transition) → joints (ds ++ cs) es ≡ joints ds es ++ joints cs es
unfolding joints
joints_append [] cs es = refl
joints_append (d ∷ ds) cs es = ap (λ l. joints_with d es ++ l) (joints_append ds cs es) ∙ sym (append_assoc (joints_with d es) (joints ds es) (joints cs es))

joints_nothing : (ds : List Transition) → joints ds [] ≡ []
unfolding joints joints_with
joints_nothing [] = refl
joints_nothing (d ∷ ds) = joints_nothing ds

ranges_append : (ds es : List Transition) → ranges_of (ds ++ es) ≡ ranges_of ds ++ ranges_of es
unfolding ranges_of
ranges_append ds es = filter_append (λ e. eqb e.kind 1) ds es

pub joints_none_left : (es : List Transition) → joints_of [] es ≡ []
unfolding joints_of ranges_of filter joints
joints_none_left es = refl

pub joints_none_right : (ds : List Transition) → joints_of ds [] ≡ []
unfolding joints_of ranges_of filter
joints_none_right ds = joints_nothing (ranges_of ds)

pub joints_left : (d : Transition) (ds es : List Transition) → joints_of (d ∷ ds) es ≡ joints_of (d ∷ []) es ++ joints_of ds es
unfolding joints_of
joints_left d ds es = ap (λ l. joints l (ranges_of es)) (ranges_append (d ∷ []) ds) ∙ joints_append (ranges_of (d ∷ [])) (ranges_of ds) (ranges_of es)

-- no range among ds, or one
joints_few : (ds es fs : List Transition) → length ds ≤ 1 → joints ds (es ++ fs) ≡ joints ds es ++ joints ds fs
unfolding joints
joints_few [] es fs h = refl
joints_few (d ∷ []) es fs h = append-nil (joints_with d (es ++ fs)) ∙ with_append d es fs ∙ sym (rw (append-nil (joints_with d es), append-nil (joints_with d fs)))
joints_few (d ∷ c ∷ ds) es fs h = absurd (omega arith)

pub joints_right : (d e : Transition) (es : List Transition) → joints_of (d ∷ []) (e ∷ es) ≡ joints_of (d ∷ []) (e ∷ []) ++ joints_of (d ∷ []) es
unfolding joints_of
joints_right d e es =
    ap (joints (ranges_of (d ∷ []))) (ranges_append (e ∷ []) es)
    ∙ joints_few (ranges_of (d ∷ [])) (ranges_of (e ∷ [])) (ranges_of es) (unfold ranges_of in length_filter (λ e. eqb e.kind 1) (d ∷ []))

-- two records: no joint where one is no range, or the joint of two ranges
pub joints_other_left : (d : Transition) (es : List Transition) → (d.kind ≡ 1 → ⊥) → joints_of (d ∷ []) es ≡ []
unfolding joints_of ranges_of filter joints
joints_other_left d es h = rw (ne_eqb d.kind 1 h)

pub joints_other_right : (d e : Transition) → (e.kind ≡ 1 → ⊥) → joints_of (d ∷ []) (e ∷ []) ≡ []
unfolding joints_of ranges_of filter
joints_other_right d e h = rw (ne_eqb e.kind 1 h) (joints_nothing (ranges_of (d ∷ [])))

pub joints_two : (d e : Transition) → d.kind ≡ 1 → e.kind ≡ 1 → joints_of (d ∷ []) (e ∷ []) ≡ joint_of (intersect_ranges (symbols_of d) (symbols_of e)) (record { left = d.to; right = e.to })
unfolding joints_of ranges_of filter joints joints_with joint
joints_two d e h k = rw (eq-eqb d.kind 1 h, eq-eqb e.kind 1 k) (append-nil _ ∙ append-nil _)

-- two ranges of which one ends before the other starts
joint_apart : (d e : Transition) → min d.last e.last < max d.first e.first → joint d e ≡ []
unfolding joint joint_of intersect_ranges
joint_apart d e h = rw (lt-leb _ _ h)

-- no range of ds meets one of es, if all of these start behind them
with_behind : (d : Transition) (es : List Transition) → ((e : Transition) → e ∈ es → d.last < e.first) → joints_with d es ≡ []
unfolding joints_with
with_behind d [] f = refl
with_behind d (e ∷ es) f =
    let h = f e (Memᴰ.head refl) in
    rw (joint_apart d e (omega arith), with_behind d es (λ c m. f c (Memᴰ.tail m)))

joints_apart : (ds es : List Transition) → ((d e : Transition) → d ∈ ds → e ∈ es → d.last < e.first) → joints ds es ≡ []
unfolding joints
joints_apart [] es f = refl
joints_apart (d ∷ ds) es f = rw (with_behind d es (λ e m. f d e (Memᴰ.head refl) m), joints_apart ds es (λ c e m k. f c e (Memᴰ.tail m) k))

pub joints_behind : (d : Transition) (es : List Transition) → ((e : Transition) → e ∈ es → d.last < e.first) → joints_of (d ∷ []) es ≡ []
unfolding joints_of ranges_of
joints_behind d es f =
    joints_apart _ _
    (λ c e m k.
    let q : c ≡ d = Memᴰ.eq_of_singleton (filter_out (λ e. eqb e.kind 1) c (d ∷ []) m).0 in
    rw q (f e (filter_out (λ e. eqb e.kind 1) e es k).0))

-- a range that ends before those of ds start gives nothing with them
joints_past : (ds : List Transition) (e : Transition) (es : List Transition) → ((d : Transition) → d ∈ ds → e.last < d.first) → joints ds (e ∷ es) ≡ joints ds es
unfolding joints joints_with
joints_past [] e es f = refl
joints_past (d ∷ ds) e es f =
    let h = f d (Memᴰ.head refl) in
    rw (joint_apart d e (omega arith), joints_past ds e es (λ c m. f c (Memᴰ.tail m)))

passed_one : (a : ℕ) (ds : List Transition) (e : Transition) (es : List Transition) → ((d : Transition) → d ∈ ds → a ≤ d.first) → ends_before a e ≡ true
    → joints_of ds (e ∷ es) ≡ joints_of ds es
unfolding ends_before joints_of ranges_of filter
passed_one a ds e es f h = go (eqb e.kind 1) refl h
  where
    go : (b : Bool) → eqb e.kind 1 ≡ b → (not b || ltb e.last a) ≡ true
        → joints (ranges_of ds) (cond b (e ∷ ranges_of es) (ranges_of es)) ≡ joints (ranges_of ds) (ranges_of es)
    go true k l =
        let z : e.last < a = ltb-true _ _ l in
        joints_past (ranges_of ds) e (ranges_of es) (λ d m. let y = f d (filter_out (λ e. eqb e.kind 1) d ds m).0 in omega arith)
    go false k l = refl

pub joints_passed : (a : ℕ) (ds es : List Transition) → ((d : Transition) → d ∈ ds → a ≤ d.first) → joints_of ds es ≡ joints_of ds (not_ended a es)
unfolding not_ended
joints_passed a ds [] f = refl
joints_passed a ds (e ∷ es) f = go (ends_before a e) refl (joints_passed a ds es f)
  where
    past : ends_before a e ≡ true → joints_of ds (e ∷ es) ≡ joints_of ds es
    past h = passed_one a ds e es f h

    go : (b : Bool) → ends_before a e ≡ b → joints_of ds es ≡ joints_of ds (not_ended a es) → joints_of ds (e ∷ es) ≡ joints_of ds (cond b (not_ended a es) (e ∷ es))
    go true h ih = past h ∙ ih
    go false h ih = refl
