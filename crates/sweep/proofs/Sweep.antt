-- The pass over events: how it begins, what each event does, and what it says of a symbol once all events up to it are passed.
use Prim.Native.Nat.{ℕ, suc, ◌+◌, ◌≤◌, ◌<◌}
use mathlib.Core.Bool.{true, false, ◌&&◌, false≢true}
use mathlib.Core.List.Memᴰ
use mathlib.Core.List.{List, [], ◌∷◌}
use mathlib.Core.Logic.{◌⊎◌, inl, inr, ⊎_elim}
use mathlib.Core.Path.{◌≡◌, refl, sym, ◌∙◌, ap, subst}
use native.Mathlib.Omega.{arith}
use borrow.Author.Tests.{lt-ltb, ltb-true, eq-eqb, eqb-true, eqb-false}
use lib.Dec.{ltb, eqb}
use lib.ListN.{length, get_or, set}
use lib.Seq.{get_or-set_same, get_or-set_other}
use Rattle.lists.specs.Lists.{◌∈◌, any}
use Rattle.lists.proofs.Lists.{any_in, any_out}
use Rattle.lists.proofs.Members.{ascending_rest}
use Rattle.lists.proofs.Tests.{test, and_both, and_parts, true_same}
use Rattle.automata.specs.Automaton.{Transition, holds}
use Rattle.sets.specs.Sets.{Set, has}
use Rattle.ranges.specs.Cuts.{Cut, next_cut}
use Rattle.ranges.proofs.Cuts.{next_le, next_gt, next_cuts, next_is}
use Rattle.ranges.proofs.Held.{held, holds_ends}
use Rattle.sweep.specs.inner.Events.{event}
use Rattle.sweep.specs.inner.Sweep.{Mine, Timeline, Swept, Taken, Gone, Ending, Passes, Ahead}

-- the next cut is the only number like this
next_only : (a top : ℕ) (es : List Transition) (c : ℕ) → a < c → c ≤ top
    → ((e : Transition) → e ∈ es → ((e.first ≤ a) ⊎ (c ≤ e.first)) × ((suc e.last ≤ a) ⊎ (c ≤ suc e.last)))
    → (c ≡ top) ⊎ Cut es c
    → c ≡ next_cut a top es
next_only a top es c l u none is =
    let g : a < next_cut a top es = next_gt a top es (omega arith) in
    let least : next_cut a top es ≤ c =
    ⊎_elim (λ (q : c ≡ top). omega (arith, next_le a top es))
    (λ (r : Cut es c).
    let k = next_cuts a top r.1 in
    ⊎_elim
    (λ (q : c ≡ r.0.first). ⊎_elim (λ (h : r.0.first ≤ a). absurd (omega arith)) (λ (h : next_cut a top es ≤ r.0.first). omega arith) k.0)
    (λ (q : c ≡ suc r.0.last). ⊎_elim (λ (h : suc r.0.last ≤ a). absurd (omega arith)) (λ (h : next_cut a top es ≤ suc r.0.last). omega arith) k.1)
    r.2)
    is in
    let most : c ≤ next_cut a top es =
    ⊎_elim (λ (q : next_cut a top es ≡ top). omega arith)
    (λ (r : Cut es (next_cut a top es)).
    let k = none r.0 r.1 in
    ⊎_elim
    (λ (q : next_cut a top es ≡ r.0.first). ⊎_elim (λ (h : r.0.first ≤ a). absurd (omega arith)) (λ (h : c ≤ r.0.first). omega arith) k.0)
    (λ (q : next_cut a top es ≡ suc r.0.last). ⊎_elim (λ (h : suc r.0.last ≤ a). absurd (omega arith)) (λ (h : c ≤ suc r.0.last). omega arith) k.1)
    r.2)
    (next_is a top es) in
    omega arith

-- one list
module _ {S : Set} {W R : List Transition} {P : Transition → Type 0} where
  swept_by : (Q : Transition → Type 0) → ((v : Transition) → P v → Q v) → Swept P S W R → Swept Q S W R
  swept_by Q f w = record { rises = w.rises; inside = w.inside; passed = λ v m h. ⊎_elim inl (λ p. inr (f v p)) (w.passed v m h) }

  swept_past : {v : Transition} → Swept P S W (v ∷ R) → (Mine S v → P v) → Swept P S W R
  swept_past {v} w here =
      record {
        rises = ascending_rest w.rises;
        inside = λ y m. w.inside y (Memᴰ.tail m);
        passed = λ y m h.
            ⊎_elim (λ k. ⊎_elim (λ (q : y ≡ v). inr (subst P (sym q) (here (rw q at h)))) inl (Memᴰ.cases_cons k)) inr (w.passed y m h);
      }

  swept_first : {v : Transition} → Swept P S W (v ∷ R) → v ∈ W
  swept_first {v} w = w.inside v (Memᴰ.head refl)

swept_begin : {k : ℕ} {es : List Transition} {S : Set} {W : List Transition} (P : Transition → Type 0) → Timeline k es S W → Swept P S W W
swept_begin P w = record { rises = w.rises; inside = λ v m. m; passed = λ v m h. inl m }

module _ {es : List Transition} {S : Set} {U W : List Transition} {C : ℕ → Set} where
  pub passes_begin : Timeline 0 es S U → Timeline 1 es S W → (a : ℕ) (r : List ℕ) (L : ℕ → Set) → ((q : ℕ) → get_or r q 0 ≡ 0) → ((q : ℕ) → L q ≡ [])
      → Passes es S U W U W a r C L
  passes_begin o e a r L z n =
      record {
        opening = o;
        ending = e;
        opened = swept_begin (Taken a r) o;
        ended = swept_begin (Gone a) e;
        made = λ q x l. absurd (omega (arith, z q));
        live = λ q b l. absurd (omega (arith, z q));
        dead = λ q b. inl (n q);
      }

  module _ {Q R : List Transition} {a : ℕ} {r : List ℕ} {L : ℕ → Set} where
    pub passes_later : (b : ℕ) → a ≤ b → Passes es S U W Q R a r C L → Passes es S U W Q R b r C L
    passes_later b l p =
        record {
          opening = p.opening;
          ending = p.ending;
          opened = swept_by (Taken b r)
              (λ v (t : Taken a r v). record { before = omega (arith, t.before); noted = ⊎_elim inl (λ (g : v.last < a). inr (omega arith)) t.noted }) p.opened;
          ended = swept_by (Gone b) (λ v (g : v.from < a). omega arith) p.ended;
          made = λ q x g.
              let o = p.made q x g in
              record { event = o.event; there = o.there; mine = o.mine; target = o.target; below = omega (arith, o.below); through = o.through };
          live = λ q h g. p.live q h (omega arith);
          dead = p.dead;
        }

    -- the next opening, of a range that changes nothing or is not of S
    pub opening_past : {v : Transition} → Passes es S U W (v ∷ Q) R a r C L → (Mine S v → Taken a r v) → Passes es S U W Q R a r C L
    opening_past p here =
        record { opening = p.opening; ending = p.ending; opened = swept_past p.opened here; ended = p.ended; made = p.made; live = p.live; dead = p.dead }

    -- of one that reaches further than the target
    pub opening_noted : {v : Transition} → Passes es S U W (v ∷ Q) R a r C L → has v.first S ≡ true → v.from ≤ a → a ≤ v.last
        → get_or r v.to 0 ≤ v.last → v.to < length r
        → (u : List ℕ) → u ≡ set r v.to (v.last + 1) → (M : ℕ → Set) → M v.to ≡ C v.to → ((q : ℕ) → (q ≡ v.to → ⊥) → M q ≡ L q)
        → Passes es S U W Q R a u C M
    unfolding event
    opening_noted {v} p h l i j b u e M here others =
        let same : get_or u v.to 0 ≡ v.last + 1 = ap (λ x. get_or x v.to 0) e ∙ get_or-set_same r v.to (v.last + 1) 0 b in
        let other : (q : ℕ) → (q ≡ v.to → ⊥) → get_or u q 0 ≡ get_or r q 0 = λ q n. ap (λ x. get_or x q 0) e ∙ get_or-set_other r v.to q (v.last + 1) 0 n in
        let up : (q : ℕ) → get_or r q 0 ≤ get_or u q 0 =
        λ q. ⊎_elim (λ (z : eqb q v.to ≡ true). let y : q ≡ v.to = eqb-true _ _ z in rw y (omega arith)) (λ (z : eqb q v.to ≡ false). omega (arith, other q (eqb-false _ _ z))) (test (eqb q v.to)) in
        let m = swept_first p.opened in
        let x = p.opening.only v m h in
        let d = x.0 in
        let g : v.last ≡ d.last = ap (λ y. y.last) x.3 in
        let t : v.to ≡ d.to = ap (λ y. y.to) x.3 in
        let n = p.ending.has_all d x.1 in
        let left : event 1 n.0 d ∈ R =
        ⊎_elim (λ k. k) (λ (k : d.last < a). absurd (omega arith)) (p.ended.passed (event 1 n.0 d) n.1 (p.ending.mine d x.1)) in
        record {
          opening = p.opening;
          ending = p.ending;
          opened = swept_past
              (swept_by (Taken a u)
              (λ y (k : Taken a r y). record { before = k.before; noted = ⊎_elim (λ (z : y.last < get_or r y.to 0). inl (omega (arith, up y.to))) inr k.noted }) p.opened)
              (λ z. record { before = l; noted = inl (omega arith) });
          ended = p.ended;
          made = λ q y k.
              ⊎_elim
              (λ (z : eqb q v.to ≡ true).
              let w : q ≡ v.to = eqb-true _ _ z in
              let n : y < v.last + 1 = subst (λ i. y < i) (ap (λ q. get_or u q 0) w ∙ same) k in
              record { event = v; there = m; mine = h; target = sym w; below = l; through = omega arith })
              (λ (z : eqb q v.to ≡ false). p.made q y (omega (arith, other q (eqb-false _ _ z))))
              (test (eqb q v.to));
          live = λ q n k.
              ⊎_elim (λ (z : eqb q v.to ≡ true). let w : q ≡ v.to = eqb-true _ _ z in rw w here)
              (λ (z : eqb q v.to ≡ false).
              others q (eqb-false _ _ z) ∙ p.live q n (omega (arith, other q (eqb-false _ _ z))))
              (test (eqb q v.to));
          dead = λ q b'.
              ⊎_elim
              (λ (z : eqb q v.to ≡ true).
              let w : q ≡ v.to = eqb-true _ _ z in
              let k : get_or u q 0 ≡ v.last + 1 = ap (λ q. get_or u q 0) w ∙ same in
              inr (record { event = event 1 n.0 d; there = left; mine = p.ending.mine d x.1; target = sym t ∙ sym w; end = omega arith }))
              (λ (z : eqb q v.to ≡ false).
              ⊎_elim (λ (k : L q ≡ []). inl (others q (eqb-false _ _ z) ∙ k))
              (λ (k : Ending S R r q). inr (record { event = k.event; there = k.there; mine = k.mine; target = k.target; end = k.end ∙ sym (other q (eqb-false _ _ z)) }))
              (p.dead q b'))
              (test (eqb q v.to));
        }

    -- the next ending
    module _ {v : Transition} (p : Passes es S U W Q (v ∷ R) a r C L) where
      -- it is not the one that a target waits for
      rest : (q : ℕ) → (v.to ≡ q → Mine S v → suc v.from ≡ get_or r q 0 → ⊥) → Ending S (v ∷ R) r q → Ending S R r q
      rest q n k =
          record {
            event = k.event;
            there = ⊎_elim (λ (z : k.event ≡ v). absurd (n (ap (λ y. y.to) (sym z) ∙ k.target) (subst (Mine S) z k.mine) (ap (λ y. suc y.from) (sym z) ∙ k.end))) (λ m. m) (Memᴰ.cases_cons k.there);
            mine = k.mine;
            target = k.target;
            end = k.end;
          }

      pub ending_other : has v.first S ≡ false → Passes es S U W Q R a r C L
      ending_other h =
          record {
            opening = p.opening;
            ending = p.ending;
            opened = p.opened;
            ended = swept_past p.ended (λ m. absurd (false≢true (sym h ∙ m)));
            made = p.made;
            live = p.live;
            dead = λ q n. ⊎_elim inl (λ (k : Ending S (v ∷ R) r q). inr (rest q (λ t m e. false≢true (sym h ∙ m)) k)) (p.dead q n);
          }

      -- a longer range holds the target
      pub ending_held : v.from < a → a < get_or r v.to 0 → Passes es S U W Q R a r C L
      ending_held l g =
          record {
            opening = p.opening;
            ending = p.ending;
            opened = p.opened;
            ended = swept_past p.ended (λ m. l);
            made = p.made;
            live = p.live;
            dead = λ q n.
                ⊎_elim inl
                (λ (k : Ending S (v ∷ R) r q). inr (rest q (λ t m e. let y : a < get_or r q 0 = subst (λ q. a < get_or r q 0) t g in omega arith) k))
                (p.dead q n);
          }

      -- the target is no longer live
      pub ending_gone : v.from < a → get_or r v.to 0 ≤ a → (M : ℕ → Set) → M v.to ≡ [] → ((q : ℕ) → (q ≡ v.to → ⊥) → M q ≡ L q) → Passes es S U W Q R a r C M
      ending_gone l g M here others =
          record {
            opening = p.opening;
            ending = p.ending;
            opened = p.opened;
            ended = swept_past p.ended (λ m. l);
            made = p.made;
            live = λ q n k.
                let y : q ≡ v.to → ⊥ = λ z. let f : get_or r q 0 ≤ a = subst (λ q. get_or r q 0 ≤ a) (sym z) g in omega arith in
                others q y ∙ p.live q n k;
            dead = λ q n.
                ⊎_elim (λ (z : eqb q v.to ≡ true). let y : q ≡ v.to = eqb-true _ _ z in inl (ap M y ∙ here))
                (λ (z : eqb q v.to ≡ false).
                let y = eqb-false q v.to z in
                ⊎_elim (λ (k : L q ≡ []). inl (others q y ∙ k)) (λ (k : Ending S (v ∷ R) r q). inr (rest q (λ t m e. y (sym t)) k)) (p.dead q n))
                (test (eqb q v.to));
          }

    -- all events up to a are passed
    module _ (p : Passes es S U W Q R a r C L) (far : Ahead 0 S Q a) (ahead : Ahead 1 S R a) where
      -- the targets of the ranges that hold a are those whose reach is above a
      pub passes_reach : (q : ℕ) → ltb a (get_or r q 0) ≡ any (λ e. holds a e && eqb e.to q) es
      unfolding event
      passes_reach q =
          true_same _ _
          (λ h.
          let o = p.made q a (ltb-true _ _ h) in
          let x = p.opening.only o.event o.there o.mine in
          let e = x.0 in
          let f : o.event.from ≡ e.first = ap (λ v. v.from) x.3 in
          let g : o.event.last ≡ e.last = ap (λ v. v.last) x.3 in
          let z : o.event.to ≡ e.to = ap (λ v. v.to) x.3 in
          any_in _ x.1 (and_both _ _ (held a e (omega (arith, o.below)) (omega (arith, o.through))) (eq-eqb _ _ (sym z ∙ o.target))))
          (λ h.
          let x = any_out _ es h in
          let e = x.0 in
          let b = and_parts (holds a e) _ x.2 in
          let i = holds_ends a e b.0 in
          let z : e.to ≡ q = eqb-true _ _ b.1 in
          let n = p.opening.has_all e x.1 in
          ⊎_elim (λ (m : event 0 n.0 e ∈ Q). let y : a < e.first + 0 = far (event 0 n.0 e) m (p.opening.mine e x.1) in absurd (omega (arith, i.0)))
          (λ (t : Taken a r (event 0 n.0 e)).
          ⊎_elim (λ (y : e.last < get_or r e.to 0). lt-ltb _ _ (subst (λ q. a < get_or r q 0) z (omega (arith, i.1)))) (λ (y : e.last < a). absurd (omega (arith, i.1))) t.noted)
          (p.opened.passed (event 0 n.0 e) n.1 (p.opening.mine e x.1)))

      -- the sets of the others are empty
      pub passes_none : (q : ℕ) → q < 256 → get_or r q 0 ≤ a → L q ≡ []
      passes_none q n g =
          ⊎_elim (λ (z : L q ≡ []). z) (λ (k : Ending S R r q). let y = ahead k.event k.there k.mine in absurd (omega (arith, k.end))) (p.dead q n)

      -- a cut that no event left lies below, and that is top or one of them, is the next
      pub passes_cut : (top c : ℕ) → a < c → c ≤ top
          → ((v : Transition) → v ∈ Q → Mine S v → c ≤ v.from + 0) → ((v : Transition) → v ∈ R → Mine S v → c ≤ v.from + 1)
          → (c ≡ top) ⊎ ((v : Transition) × ((v ∈ Q × Mine S v × (c ≡ v.from + 0)) ⊎ (v ∈ R × Mine S v × (c ≡ v.from + 1))))
          → c ≡ next_cut a top es
      unfolding event
      passes_cut top c l u first last is =
          next_only a top es c l u
          (λ e m.
          let n = p.opening.has_all e m in
          let o = p.ending.has_all e m in (
            ⊎_elim (λ k. let y : c ≤ e.first + 0 = first (event 0 n.0 e) k (p.opening.mine e m) in inr (omega arith))
                (λ (t : Taken a r (event 0 n.0 e)). inl t.before) (p.opened.passed (event 0 n.0 e) n.1 (p.opening.mine e m)),
            ⊎_elim (λ k. let y : c ≤ e.last + 1 = last (event 1 o.0 e) k (p.ending.mine e m) in inr (omega arith)) (λ (g : e.last < a). inl (omega arith))
                (p.ended.passed (event 1 o.0 e) o.1 (p.ending.mine e m)),
          ))
          (⊎_elim inl
          (λ x.
          let v = x.0 in
          inr
          (⊎_elim
          (λ (y : v ∈ Q × Mine S v × (c ≡ v.from + 0)).
          let o = p.opening.only v (p.opened.inside v y.0) y.1 in
          let f : v.from ≡ o.0.first = ap (λ v. v.from) o.3 in
          (o.0, o.1, inl (omega (arith, y.2))))
          (λ (y : v ∈ R × Mine S v × (c ≡ v.from + 1)).
          let o = p.ending.only v (p.ended.inside v y.0) y.1 in
          let f : v.from ≡ o.0.last = ap (λ v. v.from) o.3 in
          (o.0, o.1, inr (omega (arith, y.2))))
          x.1))
          is)
