-- The table as a queue: laws without a count of the entries still to be taken, what a finished table has, and when there is none.
use Prim.Native.Nat.{ℕ, zero, suc, ◌+◌, ◌-◌, ◌≤◌, ◌<◌}
use mathlib.Core.Bool.{true, false}
use mathlib.Core.List.Memᴰ
use mathlib.Core.List.{List, [], ◌∷◌}
use mathlib.Core.Logic.{⊎_elim, ◌↔◌}
use mathlib.Core.Path.{◌≡◌, refl, sym, ◌∙◌, ap, subst}
use native.Mathlib.Nat.{eq-or-lt_of_le}
use native.Mathlib.Omega.{arith}
use borrow.Author.Tests.{lt-ltb, le-ltb, ltb-true, ltb-false}
use lib.Dec.{ltb}
use lib.ListN.{get_or, length, take}
use lib.Seq.{take_all, length-take-le}
use Rattle.lists.specs.Lists.{◌∈◌, Distinct}
use Rattle.lists.proofs.Members.{at_in, distinct_length}
use Rattle.lists.proofs.Tests.{test}
use Rattle.lists.specs.Index.{index}
use Rattle.lists.proofs.Index.{Decides, index_lt, index_at}
use Rattle.search.specs.Search.{Graph, meet, SearchResult, over, found, explore, table}
use Rattle.search.proofs.Reached.{Reached, start, step, ReachedElements, MoreThan, AllReached}
use Rattle.search.proofs.Tables.{Extends, extends_refl, extends_trans, extends_in, extends_at, extends_length, meet_extends, meet_in, meet_good}

module _ {X : Type 0} (G : Graph X) (most : ℕ) where
  -- what is found once the first i entries have been taken
  unfoldable pub queue : ℕ → List X → SearchResult X
  queue i T = explore G (suc most - i) i T

  pub queue_begin : table G most ≡ queue 0 (G.start ∷ [])
  unfolding table queue
  queue_begin = let e : suc most - 0 ≡ suc most = omega arith in rw e

  pub queue_step : (i : ℕ) (T : List X) → i ≤ most → i < length T → queue i T ≡ queue (suc i) (meet G.same (G.next (get_or T i G.start)) T)
  unfolding explore queue
  queue_step i T b h = let e : suc most - i ≡ suc (suc most - suc i) = omega arith in rw (e, lt-ltb i (length T) h)

  pub queue_end : (i : ℕ) (T : List X) → i ≤ most → length T ≤ i → queue i T ≡ found T
  unfolding explore queue
  queue_end i T b h = let e : suc most - i ≡ suc (suc most - suc i) = omega arith in rw (e, le-ltb i (length T) h)

  explore_long : (n i : ℕ) (T : List X) → i + n ≤ length T → explore G n i T ≡ over
  unfolding explore
  explore_long zero i T h = refl
  explore_long (suc n) i T h =
      let xs = G.next (get_or T i G.start) in
      let l = extends_length (meet_extends G.same xs T) in
      rw (lt-ltb i (length T) (omega arith)) (explore_long n (suc i) (meet G.same xs T) (omega arith))

  -- a table that has too many entries settles the answer
  pub queue_over : (i : ℕ) (T : List X) → i ≤ suc most → most < length T → queue i T ≡ over
  unfolding queue
  queue_over i T b h = explore_long (suc most - i) i T (omega arith)

  -- one entry too many is as good as all of them
  pub queue_capped : (i : ℕ) (T : List X) → i ≤ suc most → queue i (take (suc most) T) ≡ queue i T
  queue_capped i T b =
      ⊎_elim
      (λ (t : ltb (suc most) (length T) ≡ true).
      let h = ltb-true (suc most) (length T) t in
      queue_over i (take (suc most) T) b (rw (length-take-le (suc most) T (omega arith)) (omega arith)) ∙ sym (queue_over i T b (omega arith)))
      (λ (t : ltb (suc most) (length T) ≡ false). ap (queue i) (take_all (suc most) T (ltb-false (suc most) (length T) t)))
      (test (ltb (suc most) (length T)))

module _ {X : Type 0} (G : Graph X) (ok : Decides G.same) where
  -- each entry before i leads to entries
  abbrev Done : ℕ → List X → Type 0
  Done i T = (j : ℕ) → j < i → (y : X) → y ∈ G.next (get_or T j G.start) → y ∈ T

  -- the table U, finished from T
  record Finished (T U : List X) : Type 0 where
    pub extends : Extends T U
    pub good : ReachedElements G U
    pub done : Done (length U) U

  round_done : (i : ℕ) (T : List X) → i < length T → Done i T → Done (suc i) (meet G.same (G.next (get_or T i G.start)) T)
  round_done i T h d j l y m =
      let xs = G.next (get_or T i G.start) in
      let x = meet_extends G.same xs T in
      let n : y ∈ G.next (get_or T j G.start) = rw (extends_at x G.start j (omega arith)) at m in
      ⊎_elim
      (λ (q : suc j ≡ suc i). let c : j ≡ i = omega arith in meet_in G.same ok xs T y (rw c at n))
      (λ (q : suc j < suc i). extends_in x y (d j (omega arith) y n))
      (eq-or-lt_of_le l)

  round_good : (i : ℕ) (T : List X) → i < length T → ReachedElements G T → ReachedElements G (meet G.same (G.next (get_or T i G.start)) T)
  round_good i T h g = meet_good G ok _ T g (λ x m. step (g.reached _ (at_in T i G.start h)) m)

  explore_found : (n i : ℕ) (T U : List X) → explore G n i T ≡ found U → i ≤ length T → ReachedElements G T → Done i T → Finished T U × (length U < i + n)
  unfolding explore
  explore_found zero i T U e l g d = let z : ◌≡◌ {A = ℕ} 0 1 = cc in absurd (omega arith)
  explore_found (suc n) i T U e l g d =
      ⊎_elim
      (λ (t : ltb i (length T) ≡ true).
      let h = ltb-true i (length T) t in
      let xs = G.next (get_or T i G.start) in
      let x = meet_extends G.same xs T in
      let k = extends_length x in
      let r = explore_found n (suc i) (meet G.same xs T) U (rw t at e) (omega arith) (round_good i T h g) (round_done i T h d) in
      (record { extends = extends_trans x r.0.extends; good = r.0.good; done = r.0.done }, omega (arith, r.1)))
      (λ (t : ltb i (length T) ≡ false).
      let h = ltb-false i (length T) t in
      let c : found T ≡ found U = rw t at e in
      let q : T ≡ U = cc in
      rw (← q) (record { extends = extends_refl T; good = g; done = λ j k. d j (omega arith) }, omega arith))
      (test (ltb i (length T)))

  explore_over : (n i : ℕ) (T : List X) → explore G n i T ≡ over → i ≤ length T → ReachedElements G T → (U : List X) × ReachedElements G U × (i + n ≤ length U)
  unfolding explore
  explore_over zero i T e l g = (T, g, omega arith)
  explore_over (suc n) i T e l g =
      ⊎_elim
      (λ (t : ltb i (length T) ≡ true).
      let h = ltb-true i (length T) t in
      let xs = G.next (get_or T i G.start) in
      let k = extends_length (meet_extends G.same xs T) in
      let r = explore_over n (suc i) (meet G.same xs T) (rw t at e) (omega arith) (round_good i T h g) in
      (r.0, r.1, omega (arith, r.2)))
      (λ (t : ltb i (length T) ≡ false).
      let c : found T ≡ over = rw t at e in
      let z : ◌≡◌ {A = ℕ} 0 1 = cc in
      absurd (omega arith))
      (test (ltb i (length T)))

  start_good : ReachedElements G (G.start ∷ [])
  start_good =
      record {
        distinct = Distinct.more (λ m. Memᴰ.not-nil m) Distinct.none;
        reached = λ x m. ⊎_elim (λ (q : x ≡ G.start). subst (Reached G) (sym q) start) (λ k. absurd (Memᴰ.not-nil k)) (Memᴰ.cases_cons m);
      }

  module _ (most : ℕ) (T : List X) (e : table G most ≡ found T) where
    all : Finished (G.start ∷ []) T × (length T < 0 + suc most)
    unfolding table
    all = explore_found (suc most) 0 (G.start ∷ []) T e (omega arith) start_good (λ j l. absurd (omega arith))

    pub table_few : length T ≤ most
    table_few = let h = all.1 in omega arith

    pub table_some : 0 < length T
    table_some = extends_length all.0.extends

    pub table_start : get_or T 0 G.start ≡ G.start
    table_start = extends_at all.0.extends G.start 0 (omega arith)

    -- an entry leads to entries
    pub table_closed : (x y : X) → x ∈ T → y ∈ G.next x → y ∈ T
    table_closed x y m n = all.0.done (index G.same x T) (index_lt G.same ok x m) y (rw (index_at G.same ok G.start x T m) n)

    whole : (x : X) → Reached G x → x ∈ T
    whole x start = subst (λ y. y ∈ T) table_start (at_in T 0 G.start table_some)
    whole x (step {x = y} r m) = table_closed y x (whole y r) m

    pub table_all : AllReached G T
    table_all = record { good = all.0.good; whole = whole }

  -- there is no table exactly when too many elements are reached
  pub over_exact : (most : ℕ) → (table G most ≡ over) ↔ MoreThan most G
  over_exact most = (
    λ e. let r = explore_over (suc most) 0 (G.start ∷ []) (unfold table in e) (omega arith) start_good in (r.0, r.1, omega (arith, r.2)),
    λ m. go (table G most) refl m,
  )
    where
      go : (f : SearchResult X) → table G most ≡ f → MoreThan most G → f ≡ over
      go over e m = refl
      go (found T) e m =
          let l = table_few most T e in
          let p = distinct_length m.0 T m.1.distinct (λ x k. (table_all most T e).whole x (m.1.reached x k)) in
          absurd (omega (arith, m.2))
