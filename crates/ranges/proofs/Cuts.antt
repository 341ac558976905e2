-- Cuts, and the spans between them: up to the next cut no range tells symbols apart, and every symbol from lower to upper lies in exactly one span.
use Prim.Native.Nat.{ℕ, zero, suc, ◌-◌, ◌≤◌, ◌<◌}
use mathlib.Core.Bool.{Bool, true, false, cond}
use mathlib.Core.List.Memᴰ
use mathlib.Core.List.{List, [], ◌∷◌, ◌++◌}
use mathlib.Core.Logic.{◌⊎◌, inl, inr, ⊎_elim}
use mathlib.Core.Path.{◌≡◌, refl, sym, ◌∙◌}
use native.Mathlib.Omega.{arith}
use borrow.Author.Tests.{le-leb, lt-leb, leb-true, leb-false, lt-ltb, le-ltb, ltb-true, ltb-false}
use lib.Dec.{leb, ltb}
use Rattle.lists.specs.Lists.{◌∈◌, filter}
use Rattle.lists.proofs.Tests.{test}
use Rattle.automata.specs.Automaton.{Transition, holds}
use Rattle.ranges.specs.Span.{Span}
use Rattle.ranges.proofs.Inside.{inside}
use Rattle.ranges.specs.Cuts.{nearer, next_cut, spans, cut_all}

module _ (a c b : ℕ) where
  nearer_le : nearer a c b ≤ b
  unfolding nearer
  nearer_le = go (ltb a c) (ltb c b) refl
    where
      go : (x y : Bool) → ltb c b ≡ y → cond x (cond y c b) b ≤ b
      go true true e = omega (arith, ltb-true c b e)
      go true false e = omega arith
      go false y e = omega arith

  nearer_gt : a < b → a < nearer a c b
  unfolding nearer
  nearer_gt h = go (ltb a c) (ltb c b) refl
    where
      go : (x y : Bool) → ltb a c ≡ x → a < cond x (cond y c b) b
      go true true e = ltb-true a c e
      go true false e = h
      go false y e = h

  nearer_cut : (c ≤ a) ⊎ (nearer a c b ≤ c)
  unfolding nearer
  nearer_cut = go (ltb a c) (ltb c b) refl refl
    where
      go : (x y : Bool) → ltb a c ≡ x → ltb c b ≡ y → (c ≤ a) ⊎ (cond x (cond y c b) b ≤ c)
      go true true e f = inr (omega arith)
      go true false e f = inr (ltb-false c b f)
      go false y e f = inl (ltb-false a c e)

  nearer_one : (nearer a c b ≡ c) ⊎ (nearer a c b ≡ b)
  unfolding nearer
  nearer_one = go (ltb a c) (ltb c b)
    where
      go : (x y : Bool) → (cond x (cond y c b) b ≡ c) ⊎ (cond x (cond y c b) b ≡ b)
      go true true = inl refl
      go true false = inr refl
      go false y = inr refl

module _ (a : ℕ) where
  -- the least of top and both cuts of e
  abbrev nearest : ℕ → Transition → ℕ
  nearest top e = nearer a e.first (nearer a (suc e.last) top)

  nearest_le : (top : ℕ) (e : Transition) → nearest top e ≤ top
  nearest_le top e = omega (arith, nearer_le a e.first (nearer a (suc e.last) top), nearer_le a (suc e.last) top)

  pub next_le : (top : ℕ) (es : List Transition) → next_cut a top es ≤ top
  unfolding next_cut
  next_le top [] = omega arith
  next_le top (e ∷ es) = omega (arith, next_le (nearest top e) es, nearest_le top e)

  pub next_gt : (top : ℕ) (es : List Transition) → a < top → a < next_cut a top es
  unfolding next_cut
  next_gt top [] h = h
  next_gt top (e ∷ es) h = next_gt (nearest top e) es (nearer_gt a e.first _ (nearer_gt a (suc e.last) _ h))

  -- no cut of a range lies between a and the next
  pub next_cuts : {e : Transition} (top : ℕ) {es : List Transition} → e ∈ es
      → ((e.first ≤ a) ⊎ (next_cut a top es ≤ e.first)) × ((suc e.last ≤ a) ⊎ (next_cut a top es ≤ suc e.last))
  unfolding next_cut
  next_cuts {e = e} top {es = []} x'' = elim x'' [ ]
  next_cuts {e} top {es = d ∷ es} (Memᴰ.head q) =
      let b = nearer a (suc d.last) top in
      let n = next_le (nearest top d) es in
      let z = nearer_le a d.first b in
      rw q (
        ⊎_elim inl (λ (h : nearest top d ≤ d.first). inr (omega arith)) (nearer_cut a d.first b),
        ⊎_elim inl (λ (h : b ≤ suc d.last). inr (omega arith)) (nearer_cut a (suc d.last) top),
      )
  next_cuts top {es = d ∷ es} (Memᴰ.tail m) = next_cuts (nearest top d) m

  -- the next cut is top or a cut of some range
  pub next_is : (top : ℕ) (es : List Transition)
      → (next_cut a top es ≡ top) ⊎ ((e : Transition) × e ∈ es × ((next_cut a top es ≡ e.first) ⊎ (next_cut a top es ≡ suc e.last)))
  unfolding next_cut
  next_is top [] = inl refl
  next_is top (e ∷ es) =
      let b = nearer a (suc e.last) top in
      ⊎_elim
      (λ (p : next_cut a (nearest top e) es ≡ nearest top e).
      ⊎_elim (λ (q : nearest top e ≡ e.first). inr (e, Memᴰ.head refl, inl (p ∙ q)))
      (λ (q : nearest top e ≡ b).
      ⊎_elim (λ (r : b ≡ suc e.last). inr (e, Memᴰ.head refl, inr (p ∙ q ∙ r))) (λ (r : b ≡ top). inl (p ∙ q ∙ r)) (nearer_one a (suc e.last) top))
      (nearer_one a e.first b))
      (λ r. inr (r.0, Memᴰ.tail r.1, r.2))
      (next_is (nearest top e) es)

  -- of two lists, one after the other
  pub next_append : (top : ℕ) (ds es : List Transition) → next_cut a top (ds ++ es) ≡ next_cut a (next_cut a top ds) es
  unfolding next_cut
  next_append top [] es = refl
  next_append top (d ∷ ds) es = next_append (nearest top d) ds es

leb_same : (m n m' n' : ℕ) → ((m ≤ n) × (m' ≤ n')) ⊎ ((n < m) × (n' < m')) → leb m n ≡ leb m' n'
leb_same m n m' n' (inl h) = le-leb m n h.0 ∙ sym (le-leb m' n' h.1)
leb_same m n m' n' (inr h) = lt-leb m n h.0 ∙ sym (lt-leb m' n' h.1)

-- up to the next cut, a range holds all symbols or none
pub next_alike : (a top : ℕ) (es : List Transition) (x : ℕ) → a ≤ x → x < next_cut a top es → (e : Transition) → e ∈ es → holds x e ≡ holds a e
unfolding holds
next_alike a top es x l u e m =
    let c = next_cuts a top m in
    let f : leb e.first x ≡ leb e.first a =
    leb_same e.first x e.first a
    (⊎_elim (λ (h : e.first ≤ a). inl (omega arith)) (λ (h : next_cut a top es ≤ e.first). inr (omega arith)) c.0) in
    let g : leb x e.last ≡ leb a e.last =
    leb_same x e.last a e.last
    (⊎_elim (λ (h : suc e.last ≤ a). inr (omega arith)) (λ (h : next_cut a top es ≤ suc e.last). inl (omega arith)) c.1) in
    rw (f, g)

module _ (top : ℕ) (es : List Transition) where
  none_below : (n a x : ℕ) → x < a → filter (inside x) (spans n a top es) ≡ []
  unfolding spans filter inside
  none_below zero a x h = refl
  none_below (suc n) a x h =
      ⊎_elim
      (λ (t : ltb a top ≡ true).
      let l : a < next_cut a top es = next_gt a top es (ltb-true a top t) in
      rw (t, lt-leb a x h) (none_below n (next_cut a top es) x (omega arith)))
      (λ (t : ltb a top ≡ false). rw t)
      (test (ltb a top))

  spans_one : (n a x : ℕ) → top - a ≤ n → a ≤ x → x < top → (s : Span) × (filter (inside x) (spans n a top es) ≡ s ∷ [])
  unfolding spans filter inside
  spans_one zero a x d l u = absurd (omega arith)
  spans_one (suc n) a x d l u =
      let g : a < next_cut a top es = next_gt a top es (omega arith) in
      let h : next_cut a top es ≤ top = next_le a top es in
      let sp : Span = record { first = a; last = next_cut a top es - 1 } in
      ⊎_elim
      (λ (t : leb x (next_cut a top es - 1) ≡ true).
      let y : x ≤ next_cut a top es - 1 = leb-true _ _ t in
      (sp, rw (lt-ltb a top (omega arith), le-leb a x l, t, none_below n (next_cut a top es) x (omega arith))))
      (λ (t : leb x (next_cut a top es - 1) ≡ false).
      let y : next_cut a top es - 1 < x = leb-false _ _ t in
      rw (lt-ltb a top (omega arith), le-leb a x l, t) (spans_one n (next_cut a top es) x (omega arith) (omega arith) u))
      (test (leb x (next_cut a top es - 1)))

  spans_enough : (n k a : ℕ) → top - a ≤ n → top - a ≤ k → spans n a top es ≡ spans k a top es
  unfolding spans
  spans_enough zero zero a h k = refl
  spans_enough zero (suc m) a h k = rw (le-ltb a top (omega arith))
  spans_enough (suc n) zero a h k = rw (le-ltb a top (omega arith))
  spans_enough (suc n) (suc m) a h k =
      ⊎_elim
      (λ (t : ltb a top ≡ true).
      let l : a < next_cut a top es = next_gt a top es (ltb-true _ _ t) in
      rw (t, spans_enough n m (next_cut a top es) (omega arith) (omega arith)))
      (λ (t : ltb a top ≡ false). rw t)
      (test (ltb a top))

module _ (upper : ℕ) (es : List Transition) where
  -- exactly one span holds x
  pub cut_one : (lower x : ℕ) → lower ≤ x → x ≤ upper → (s : Span) × (filter (inside x) (cut_all lower upper es) ≡ s ∷ [])
  unfolding cut_all
  cut_one lower x l u = spans_one (suc upper) es (suc upper - lower) lower x (omega arith) l (omega arith)

  pub cut_end : (a : ℕ) → upper < a → cut_all a upper es ≡ []
  unfolding cut_all spans
  cut_end a h = spans_enough (suc upper) es (suc upper - a) 0 a (omega arith) (omega arith)

  pub cut_step : (a : ℕ) → a ≤ upper
      → cut_all a upper es ≡ record { first = a; last = next_cut a (suc upper) es - 1 } ∷ cut_all (next_cut a (suc upper) es) upper es
  unfolding cut_all spans
  cut_step a h =
      let n : a < next_cut a (suc upper) es = next_gt a (suc upper) es (omega arith) in
      spans_enough (suc upper) es (suc upper - a) (suc (suc upper - a)) a (omega arith) (omega arith)
      ∙ rw (lt-ltb a (suc upper) (omega arith), spans_enough (suc upper) es (suc upper - a) (suc upper - next_cut a (suc upper) es) (next_cut a (suc upper) es) (omega arith) (omega arith))
