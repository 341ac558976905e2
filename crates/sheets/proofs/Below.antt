-- How many of some records leave a state below q: where the records of a state begin, and the loops that find these places.
use Prim.Native.Nat.{ℕ, zero, suc, ◌+◌, ◌-◌, ◌*◌, ◌/◌, ◌≤◌, ◌<◌}
use mathlib.Core.Bool.{true, false, cond}
use mathlib.Core.List.{List, [], ◌∷◌, nil≢cons, head-eq_of_cons-eq}
use mathlib.Core.Logic.{⊎_elim}
use mathlib.Core.Path.{◌≡◌, sym, ap, ◌∙◌}
use native.Mathlib.Nat.{eq-or-lt_of_le}
use native.Mathlib.Numerals.{add-one}
use native.Mathlib.Omega.{arith}
use borrow.Author.Tests.{leb-true, leb-false, ltb-true, ltb-false, lt-ltb, le-ltb, eqb-true, eqb-false, eq-eqb, ne_eqb}
use lib.Dec.{leb, ltb, eqb}
use lib.ListN.{length, get_or, take, drop, set, replicate, length-drop, length-set, length-replicate}
use lib.Seq.{drop-nil, take-nil, get_or-set_same, get_or-set_other}
use Rattle.std.specs.Simd.{first_chunks}
use Rattle.lists.specs.Lists.{◌∈◌, filter, Ascending, none, more}
use Rattle.lists.proofs.Lists.{filter_none, length_filter, drop_mem, blank_at}
use Rattle.lists.proofs.Tests.{test}
use Rattle.automata.specs.Automaton.{Transition}
use Rattle.automata.specs.Records.{read_records}
use Rattle.automata.specs.inner.Records.{record_at}
use Rattle.automata.specs.WellFormed.{Before}
use Rattle.automata.proofs.Ordered.{before_from}
use Rattle.automata.proofs.Chunks.{chunk_word}
use Rattle.automata.proofs.Records.{records_at_lem, records_end, read_drop}
use Rattle.sheets.specs.inner.Runs.{below, Rising, Named, RunEnds}

-- records in order ascend in the states that they leave
pub rising : {es : List Transition} → Ascending Before es → Rising es
rising none = none
rising (more f a) = more (λ y m. before_from _ y (f y m)) (rising a)

below_none : (q : ℕ) (e : Transition) (es : List Transition) → q ≤ e.from → ((y : Transition) → y ∈ es → e.from ≤ y.from) → below q es ≡ 0
unfolding below
below_none q e es h f = ap length (filter_none (λ e. ltb e.from q) es (λ y m. le-ltb y.from q (let l = f y m in omega arith)))

below_in : (q : ℕ) (e : Transition) (es : List Transition) → e.from < q → below q (e ∷ es) ≡ suc (below q es)
unfolding below filter
below_in q e es h = rw (lt-ltb e.from q h)

below_out : (q : ℕ) (e : Transition) (es : List Transition) → q ≤ e.from → below q (e ∷ es) ≡ below q es
unfolding below filter
below_out q e es h = rw (le-ltb e.from q h)

-- record k leaves a state below q exactly when it is one of the first `below q`
below_split : (q k : ℕ) (ts : List Transition) → Rising ts → (e : Transition) (r : List Transition) → drop k ts ≡ e ∷ r
    → (e.from < q → k < below q ts) × (q ≤ e.from → below q ts ≤ k)
below_split q k [] a e r h = absurd (nil≢cons (sym (drop-nil k) ∙ h))
below_split q zero (d ∷ ts) (more f a) e r h =
    let p : d ≡ e = head-eq_of_cons-eq h in
    (λ l. rw (below_in q d ts (rw p l)) (omega arith), λ l. let z = below_none q d ts (rw p l) f in rw (below_out q d ts (rw p l)) (omega arith))
below_split q (suc k) (d ∷ ts) (more f a) e r h =
    let ih = below_split q k ts a e r h in
    let m : d.from ≤ e.from = f e (drop_mem k ts e r h) in (
      λ l. let i = ih.0 l in rw (below_in q d ts (omega arith)) (omega arith),
      λ l.
          let i = ih.1 l in
          ⊎_elim (λ t. rw (below_in q d ts (ltb-true _ _ t)) (omega arith)) (λ t. rw (below_out q d ts (ltb-false _ _ t)) (omega arith)) (test (ltb d.from q)),
    )

pub below_length : (q : ℕ) (ts : List Transition) → below q ts ≤ length ts
unfolding below
below_length q ts = length_filter _ ts

pub ends_begin : (t : List ℕ) → RunEnds t (replicate 257 0) 0
ends_begin t = record { long = length-replicate {A = ℕ} 257 0; most = λ q. omega (arith, blank_at 257 q); least = λ j l. absurd (omega arith) }

-- record k of some words
module _ (t : List ℕ) (k : ℕ) where
  record_k : 5 ≤ length t - 5 * k → drop k (read_records t) ≡ record_at t (5 * k) ∷ read_records (drop (5 * k + 5) t)
  record_k h = sym (read_drop k t) ∙ records_at_lem t (5 * k) h

  records_few : length t - 5 * k < 5 → length (read_records t) ≤ k
  records_few h =
      let z : length (read_records t) - k ≡ 0 = sym (length-drop k (read_records t)) ∙ ap length (sym (read_drop k t) ∙ records_end t (5 * k) h) in
      omega arith

  pub ends_bound : Named 256 (read_records t) → 5 ≤ length t - 5 * k → get_or t (5 * k) 0 < 256
  ends_bound n h = n.froms (record_at t (5 * k)) (drop_mem k (read_records t) _ _ (record_k h))

  module _ (ends : List ℕ) (e : RunEnds t ends k) where
    pub ends_ended : length t - 5 * k < 5 → RunEnds t ends (length (read_records t))
    ends_ended h = record { long = e.long; most = e.most; least = λ j l. e.least j (omega (arith, records_few h)) }

    -- the number behind record k
    pub ends_next : Rising (read_records t) → Named 256 (read_records t) → 5 ≤ length t - 5 * k → RunEnds t (set ends (get_or t (5 * k) 0 + 1) (k + 1)) (k + 1)
    ends_next up n h =
        record {
          long = length-set ends _ (k + 1) ∙ e.long;
          most = λ q.
              ⊎_elim
              (λ c. let i : q ≡ f + 1 = eqb-true q (f + 1) c in rw (ap (λ x. get_or (set ends (f + 1) (k + 1)) x 0) i ∙ same) (omega (arith, (below_split q k _ up _ _ (record_k h)).0 (omega arith))))
              (λ c. rw (get_or-set_other ends (f + 1) q (k + 1) 0 (eqb-false q (f + 1) c)) (e.most q)) (test (eqb q (f + 1)));
          least = λ j l.
              ⊎_elim
              (λ c. rw (ap (λ x. get_or (set ends (f + 1) (k + 1)) x 0) (eqb-true (get_or t (5 * j) 0 + 1) (f + 1) c) ∙ same) l)
              (λ c.
              let d = eqb-false (get_or t (5 * j) 0 + 1) (f + 1) c in
              rw (get_or-set_other ends (f + 1) (get_or t (5 * j) 0 + 1) (k + 1) 0 d) (e.least j (less j l (λ i. d (ap (λ x. get_or t (5 * x) 0 + 1) i)))))
              (test (eqb (get_or t (5 * j) 0 + 1) (f + 1)));
        }
      where
        f : ℕ
        f = get_or t (5 * k) 0

        same : get_or (set ends (f + 1) (k + 1)) (f + 1) 0 ≡ k + 1
        same = get_or-set_same ends (f + 1) (k + 1) 0 (omega (arith, e.long, ends_bound n h))

        less : (j : ℕ) → j < k + 1 → (j ≡ k → ⊥) → j < k
        less j l d = omega (arith, d)

-- the same of its chunks
module _ (t : List ℕ) (rs : List (List ℕ)) (k : ℕ) (q : rs ≡ first_chunks 5 (length t / 5) t) (m : length rs ≡ length t / 5) where
  state : k < length rs → get_or (get_or rs k []) 0 0 ≡ get_or t (5 * k) 0
  state h = let z : 5 * k + 0 ≡ 5 * k = omega arith in rw q (chunk_word (length t / 5) t k 0 (omega arith) (omega arith) ∙ ap (λ i. get_or t i 0) z)

  pub state_bound : Named 256 (read_records t) → k < length rs → get_or (get_or rs k []) 0 0 < 256
  state_bound n h = rw (state h) (ends_bound t k n (omega arith))

  module _ (ends : List ℕ) (e : RunEnds t ends k) where
    pub marked_all : length rs ≤ k → RunEnds t ends (length (read_records t))
    marked_all h = ends_ended t k ends e (omega arith)

    pub marked_next : Rising (read_records t) → Named 256 (read_records t) → k < length rs → RunEnds t (set ends (get_or (get_or rs k []) 0 0 + 1) (k + 1)) (k + 1)
    marked_next up n h = rw (state h) (ends_next t k ends e up n (omega arith))

pub below_mono : (q : ℕ) (ts : List Transition) → below q ts ≤ below (suc q) ts
unfolding below filter
below_mono q [] = omega arith
below_mono q (e ∷ ts) =
    let ih : below q ts ≤ below (suc q) ts = below_mono q ts in
    ⊎_elim (λ t. let l : e.from < q = ltb-true _ _ t in rw (lt-ltb e.from q l, lt-ltb e.from (suc q) (omega arith)) (omega arith))
    (λ (t : ltb e.from q ≡ false). rw t (⊎_elim (λ (u : ltb e.from (suc q) ≡ true). rw u (omega arith)) (λ (u : ltb e.from (suc q) ≡ false). rw u ih) (test (ltb e.from (suc q)))))
    (test (ltb e.from q))

-- the greatest entry of those below q
pub record Greatest (t ends : List ℕ) (q k : ℕ) : Type 0 where
  pub most : k ≤ below q (read_records t)
  pub least : (r : ℕ) → r < q → get_or ends r 0 ≤ k

pub greatest_begin : (t ends : List ℕ) → Greatest t ends 0 0
greatest_begin t ends = record { most = omega arith; least = λ r l. absurd (omega arith) }

module _ (t ends : List ℕ) (up : Rising (read_records t)) (e : RunEnds t ends (length (read_records t))) (q k : ℕ) (g : Greatest t ends q k)
    (m : ℕ) (i : m ≡ cond (ltb k (get_or ends q 0)) (get_or ends q 0) k) where
  bounds : (k ≤ m) × (get_or ends q 0 ≤ m) × (m ≤ below q (read_records t))
  bounds =
      let l = g.most in
      let o = e.most q in
      ⊎_elim
      (λ c. let z : m ≡ get_or ends q 0 = i ∙ ap (λ b. cond b (get_or ends q 0) k) c in let d = ltb-true k (get_or ends q 0) c in (omega arith, omega arith, omega arith))
      (λ c. let z : m ≡ k = i ∙ ap (λ b. cond b (get_or ends q 0) k) c in let d = ltb-false k (get_or ends q 0) c in (omega arith, omega arith, omega arith))
      (test (ltb k (get_or ends q 0)))

  pub greatest_is : m ≡ below q (read_records t)
  greatest_is = ⊎_elim (λ c. absurd (no (ltb-true m (below q (read_records t)) c))) (λ c. let z = ltb-false m (below q (read_records t)) c in omega (arith, bounds.2)) (test (ltb m (below q (read_records t))))
    where
      -- the entry behind the state that record m leaves
      entry : get_or t (5 * m) 0 < q → get_or ends (get_or t (5 * m) 0 + 1) 0 ≤ m
      entry h =
          ⊎_elim (λ (c : get_or t (5 * m) 0 + 1 ≡ q). rw c bounds.1) (λ (c : get_or t (5 * m) 0 + 1 < q). omega (arith, g.least _ c, bounds.0))
          (eq-or-lt_of_le (one_more h))
        where
          one_more : get_or t (5 * m) 0 < q → get_or t (5 * m) 0 + 1 ≤ q
          one_more l = omega arith

      no : m < below q (read_records t) → ⊥
      no l =
          ⊎_elim
          (λ c.
          let b = (below_split q m _ up _ _ (record_k t m (leb-true 5 (length t - 5 * m) c))).1 in
          ⊎_elim (λ d. let z = b (leb-true q (get_or t (5 * m) 0) d) in omega arith) (λ d. let z = entry (leb-false q (get_or t (5 * m) 0) d) in let y = e.least m (omega (arith, below_length q (read_records t))) in omega arith)
          (test (leb q (get_or t (5 * m) 0))))
          (λ c. let z = records_few t m (leb-false 5 (length t - 5 * m) c) in let y = below_length q (read_records t) in omega arith)
          (test (leb 5 (length t - 5 * m)))

  pub greatest_next : Greatest t ends (q + 1) m
  greatest_next =
      record {
        most = rw add-one (omega (arith, bounds.2, below_mono q (read_records t)));
        least = λ r l. ⊎_elim (λ (c : r ≡ q). rw c bounds.1) (λ (c : r < q). omega (arith, g.least r c, bounds.0)) (eq-or-lt_of_le (up_to l));
      }
    where
      up_to : {r : ℕ} → r < q + 1 → r ≤ q
      up_to l = omega arith

-- the transitions that leave q are those from `below q` up to `below (q + 1)`
pub leaving_run : (q : ℕ) (ts : List Transition) → Rising ts → filter (λ e. eqb e.from q) ts ≡ take (below (suc q) ts - below q ts) (drop (below q ts) ts)
unfolding filter
leaving_run q [] a = rw (drop-nil, take-nil)
leaving_run q (e ∷ ts) (more f a) =
    let ih = leaving_run q ts a in
    ⊎_elim
    (λ t.
    let l : e.from < q = ltb-true _ _ t in
    let z : suc (below (suc q) ts) - suc (below q ts) ≡ below (suc q) ts - below q ts = omega arith in
    rw (ne_eqb e.from q (λ z. omega arith), below_in q e ts l, below_in (suc q) e ts (omega arith), z) ih)
    (λ t.
    let l : q ≤ e.from = ltb-false _ _ t in
    let z : below q ts ≡ 0 = below_none q e ts l f in
    ⊎_elim
    (λ u.
    let k : e.from < suc q = ltb-true _ _ u in
    let n : below (suc q) ts - 0 ≡ below (suc q) ts = omega arith in
    let m : suc (below (suc q) ts) - 0 ≡ suc (below (suc q) ts) = omega arith in
    rw (eq-eqb e.from q (omega arith), below_in (suc q) e ts k, below_out q e ts l, z, m)
    (ap (λ l. e ∷ l) (ih ∙ ap (λ x. take (below (suc q) ts - x) (drop x ts)) z ∙ ap (λ x. take x ts) n)))
    (λ u.
    let k : suc q ≤ e.from = ltb-false _ _ u in
    rw (ne_eqb e.from q (λ z. omega arith), below_out (suc q) e ts k, below_out q e ts l, z, below_none (suc q) e ts k f)
    (filter_none (λ e. eqb e.from q) ts (λ y m. ne_eqb y.from q (λ c. let o = f y m in omega arith))))
    (test (ltb e.from (suc q))))
    (test (ltb e.from q))
