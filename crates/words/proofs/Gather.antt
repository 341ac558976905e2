-- The laws by which a step is proved: gathering record by record, and member by member.
use Prim.Native.Nat.{ℕ, ◌+◌, ◌*◌, ◌≤◌, ◌<◌}
use mathlib.Core.Bool.{Bool, true, false, ◌&&◌, ◌||◌, or-false}
use mathlib.Core.List.Memᴰ
use mathlib.Core.List.{List, [], ◌∷◌}
use mathlib.Core.Logic.{⊎_elim}
use mathlib.Core.Path.{◌≡◌, refl, sym, ◌∙◌, ap, subst}
use native.Mathlib.Omega.{arith}
use borrow.Author.Tests.{eq-eqb, lt-leb, le-leb, ne_eqb, eqb-true, eqb-false}
use lib.Dec.{eqb}
use lib.ListN.{length, get_or, drop}
use Rattle.lists.specs.Lists.{◌∈◌, any}
use Rattle.lists.proofs.Lists.{any_ext, filter_in}
use Rattle.lists.proofs.Tests.{test}
use Rattle.automata.specs.Automaton.{Transition, holds, ranges_of}
use Rattle.automata.specs.inner.Chunks.{records_of}
use Rattle.automata.specs.inner.Records.{record_at}
use Rattle.automata.proofs.Chunks.{records_next, records_done}
use Rattle.ranges.specs.Missing.{SortedRanges}
use Rattle.ranges.proofs.Runs.{ranges_in, ranges_at}
use Rattle.ranges.specs.Cuts.{next_cut}
use Rattle.ranges.proofs.SortedCuts.{sorted_above, sorted_skip, sorted_next, cut_skip, cut_below}
use Rattle.sets.specs.Sets.{Set, has, pick}
use Rattle.sets.specs.inner.Members.{Canon}
use Rattle.sets.specs.inner.BitSet.{set_at}
use Rattle.sets.specs.inner.Words.{union_at}
use Rattle.sets.proofs.Sets.{has_pick, pick_ext}
use Rattle.sets.proofs.BitSet.{at_canon}
use Rattle.sets.proofs.Stores.{unioned}
use Rattle.words.specs.inner.Gather.{with_all, takes, gathered}

or_assoc : (a b c : Bool) → (a || (b || c)) ≡ ((a || b) || c)
or_assoc true b c = refl
or_assoc false b c = refl

any_false : {X : Type 0} (xs : List X) → any (λ x. false) xs ≡ false
unfolding any
any_false [] = refl
any_false (x ∷ xs) = any_false xs

-- one element after the other
module _ {X : Type 0} (f : ℕ → X → Bool) where
  pub all_none : (S : Set) → Canon 256 S → with_all S f [] ≡ S
  unfolding with_all any
  all_none S c = pick_ext 0 256 _ _ (λ q l. or-false (has q S)) ∙ c

  pub all_cons : (S : Set) (x : X) (xs : List X) → with_all S f (x ∷ xs) ≡ with_all (with_all S f (x ∷ [])) f xs
  unfolding with_all any
  all_cons S x xs =
      pick_ext 0 256 _ _
      (λ q l.
      or_assoc (has q S) (f q x) (any (f q) xs)
      ∙ ap (λ b. b || any (f q) xs) (ap (λ b. has q S || b) (sym (or-false (f q x))) ∙ sym (has_pick 256 _ q (omega arith))))

  pub all_skip : (S : Set) (x : X) → Canon 256 S → ((q : ℕ) → f q x ≡ false) → with_all S f (x ∷ []) ≡ S
  unfolding with_all any
  all_skip S x c h = pick_ext 0 256 _ _ (λ q l. ap (λ b. has q S || (b || false)) (h q) ∙ or-false (has q S)) ∙ c

  pub all_one : (S : Set) (x : X) → with_all S f (x ∷ []) ≡ pick 256 (λ q. has q S || f q x)
  unfolding with_all any
  all_one S x = pick_ext 0 256 _ _ (λ q l. ap (λ b. has q S || b) (or-false (f q x)))

  all_nothing : (S : Set) (xs : List X) → ((q : ℕ) (x : X) → x ∈ xs → f q x ≡ false) → with_all S f [] ≡ with_all S f xs
  unfolding with_all any
  all_nothing S xs h =
      pick_ext 0 256 _ _ (λ q l. ap (λ b. has q S || b) (sym (any_ext (f q) (λ x. false) xs (h q) ∙ any_false xs)))

and_no : (a b : Bool) → a ≡ false → (a && b) ≡ false
and_no a b h = rw h

module _ (c : List ℕ) (a : ℕ) where
  pub gather_none : (t : List ℕ) → gathered t c a [] ≡ set_at t 0
  unfolding gathered
  gather_none t = all_none _ (set_at t 0) (at_canon t 0)

  -- gathering the first transition and then the others
  pub gather_cons : (t u : List ℕ) (e : Transition) (es : List Transition) → set_at u 0 ≡ gathered t c a (e ∷ []) → gathered t c a (e ∷ es) ≡ gathered u c a es
  unfolding gathered
  gather_cons t u e es h = all_cons _ (set_at t 0) e es ∙ ap (λ S. with_all S (λ r e. takes a e && has r (set_at c (4 * e.to))) es) (sym h)

  gather_skip : (t : List ℕ) (e : Transition) → takes a e ≡ false → set_at t 0 ≡ gathered t c a (e ∷ [])
  unfolding gathered
  gather_skip t e h = sym (all_skip _ (set_at t 0) e (at_canon t 0) (λ q. and_no (takes a e) _ h))

  gather_nothing : (t : List ℕ) (es : List Transition) → ((e : Transition) → e ∈ es → takes a e ≡ false) → set_at t 0 ≡ gathered t c a es
  unfolding gathered
  gather_nothing t es h =
      sym (all_none _ (set_at t 0) (at_canon t 0)) ∙ all_nothing _ (set_at t 0) es (λ q e m. and_no (takes a e) _ (h e m))

  gather_take : (t : List ℕ) (e : Transition) → takes a e ≡ true → 4 ≤ length t → set_at (union_at t 0 c (4 * e.to)) 0 ≡ gathered t c a (e ∷ [])
  unfolding gathered
  gather_take t e h l = unioned t 0 c (4 * e.to) l ∙ pick_ext 0 256 _ _ (λ r l. rw h) ∙ sym (all_one _ (set_at t 0) e)

-- no range takes a symbol that lies below the first of each
takes_none : (a : ℕ) (es : List Transition) → ((d : Transition) → d ∈ ranges_of es → a < d.first) → (e : Transition) → e ∈ es → takes a e ≡ false
unfolding takes ranges_of holds
takes_none a es h e m =
    ⊎_elim (λ (t : eqb e.kind 1 ≡ true). rw (t, lt-leb e.first a (h e (filter_in (λ e. eqb e.kind 1) m t)))) (λ (t : eqb e.kind 1 ≡ false). rw t)
    (test (eqb e.kind 1))

-- the run of a state, from the record at an index on
module _ (old c : List ℕ) (a : ℕ) (rs : List (List ℕ)) (t : List ℕ) (i : ℕ) (es : List Transition) (e : gathered t c a (records_of (drop i rs)) ≡ gathered old c a es) where
  pub run_ended : length rs ≤ i → set_at t 0 ≡ gathered old c a es
  run_ended h = sym (gather_none c a t) ∙ ap (gathered t c a) (sym (records_done rs i h)) ∙ e

  module _ (h : i < length rs) where
    next : (u : List ℕ) → set_at u 0 ≡ gathered t c a (record_at (get_or rs i []) 0 ∷ []) → gathered u c a (records_of (drop (i + 1) rs)) ≡ gathered old c a es
    next u k = sym (gather_cons c a t u (record_at (get_or rs i []) 0) (records_of (drop (i + 1) rs)) k) ∙ ap (gathered t c a) (sym (records_next rs i h)) ∙ e

    pub run_skip : (get_or (get_or rs i []) 1 0 ≡ 1 → ⊥) → gathered t c a (records_of (drop (i + 1) rs)) ≡ gathered old c a es
    unfolding takes
    run_skip k = next t (gather_skip c a t (record_at (get_or rs i []) 0) (rw (ne_eqb (get_or (get_or rs i []) 1 0) 1 k)))

    module _ (k : get_or (get_or rs i []) 1 0 ≡ 1) where
      pub run_below : get_or (get_or rs i []) 2 0 ≤ a → get_or (get_or rs i []) 3 0 < a → gathered t c a (records_of (drop (i + 1) rs)) ≡ gathered old c a es
      unfolding takes holds
      run_below l g = next t (gather_skip c a t (record_at (get_or rs i []) 0) (rw (eq-eqb (get_or (get_or rs i []) 1 0) 1 k, le-leb (get_or (get_or rs i []) 2 0) a l, lt-leb a (get_or (get_or rs i []) 3 0) g)))

      pub run_holds : get_or (get_or rs i []) 2 0 ≤ a → a ≤ get_or (get_or rs i []) 3 0 → length t ≡ length old → 4 ≤ length old → (u : List ℕ) → u ≡ union_at t 0 c (4 * get_or (get_or rs i []) 4 0)
          → gathered u c a (records_of (drop (i + 1) rs)) ≡ gathered old c a es
      unfolding takes holds
      run_holds l g n m u q =
          next u
          (ap (λ x. set_at x 0) q
          ∙ gather_take c a t (record_at (get_or rs i []) 0) (rw (eq-eqb (get_or (get_or rs i []) 1 0) 1 k, le-leb (get_or (get_or rs i []) 2 0) a l, le-leb a (get_or (get_or rs i []) 3 0) g)) (omega arith))

      pub run_above : SortedRanges (ranges_in (drop i rs)) → a < get_or (get_or rs i []) 2 0 → set_at t 0 ≡ gathered old c a es
      run_above s g =
          let r = ranges_at rs i h k in
          let f : (d : Transition) → d ∈ ranges_in (drop i rs) → a < d.first =
          λ d m. sorted_above a (record_at (get_or rs i []) 0) (ranges_in (drop (i + 1) rs)) (subst SortedRanges r s) g d (rw r at m) in
          gather_nothing c a t (records_of (drop i rs)) (takes_none a (records_of (drop i rs)) f) ∙ e

-- a record of whatever kind that ends below the symbol
module _ (rs : List (List ℕ)) (i : ℕ) (o : SortedRanges (ranges_in (drop i rs))) (h : i < length rs) where
  by_kind : {X : Type 0} → (get_or (get_or rs i []) 1 0 ≡ 1 → X) → ((get_or (get_or rs i []) 1 0 ≡ 1 → ⊥) → X) → X
  by_kind f g =
      ⊎_elim (λ (t : eqb (get_or (get_or rs i []) 1 0) 1 ≡ true). f (eqb-true (get_or (get_or rs i []) 1 0) 1 t))
      (λ (t : eqb (get_or (get_or rs i []) 1 0) 1 ≡ false). g (eqb-false (get_or (get_or rs i []) 1 0) 1 t))
      (test (eqb (get_or (get_or rs i []) 1 0) 1))

  starts_first : get_or (get_or rs i []) 1 0 ≡ 1 → get_or (get_or rs i []) 2 0 ≤ get_or (get_or rs i []) 3 0
  starts_first k = (subst SortedRanges (ranges_at rs i h k) o).full (record_at (get_or rs i []) 0) (Memᴰ.head refl)

  pub sorted_past : SortedRanges (ranges_in (drop (i + 1) rs))
  sorted_past = by_kind (sorted_next rs i o h) (sorted_skip rs i o h)

  module _ (a : ℕ) (l : get_or (get_or rs i []) 3 0 < a) where
    pub cut_past : (top found c : ℕ) → next_cut a found (ranges_in (drop i rs)) ≡ c → next_cut a found (ranges_in (drop (i + 1) rs)) ≡ c
    cut_past top found c e =
        by_kind (λ k. let f = starts_first k in cut_below rs a top found i c e h k (omega arith) l) (cut_skip rs a top found i c e h)

    pub run_past : (old c t : List ℕ) (es : List Transition) → gathered t c a (records_of (drop i rs)) ≡ gathered old c a es
        → gathered t c a (records_of (drop (i + 1) rs)) ≡ gathered old c a es
    run_past old c t es e =
        by_kind (λ k. let f = starts_first k in run_below old c a rs t i es e h k (omega arith) l) (run_skip old c a rs t i es e h)
