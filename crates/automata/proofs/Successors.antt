-- Where every symbol between the ends has one transition in every state: the successor by any transition that holds the symbol, and runs after Rabin and
-- Scott, which end in the state that the word leads to. Assumes nothing.
use Prim.Native.Nat.{ℕ, ◌≤◌, ◌<◌}
use mathlib.Core.Bool.{true}
use mathlib.Core.List.Memᴰ
use mathlib.Core.List.{List}
use mathlib.Core.Logic.{◌↔◌}
use mathlib.Core.Path.{◌≡◌, refl, sym, ap, subst, ◌∙◌}
use native.Mathlib.Omega.{arith}
use borrow.Author.Tests.{eq-eqb, le-leb, eqb-true, leb-true}
use lib.Dec.{leb, eqb}
use Rattle.lists.specs.Lists.{◌∈◌, filter}
use Rattle.lists.proofs.Lists.{filter_in, filter_out}
use Rattle.lists.proofs.Tests.{and_both, and_parts}
use Rattle.automata.specs.Automaton.{Transition, Automaton, Run, stay, skip, read, Accepts, accept_of, Word, none, more, InBounds, holds, carries}
use Rattle.automata.specs.Deterministic.{Deterministic}
use Rattle.automata.specs.Successors.{first_target, successor, state_after, accept_after}

module _ (lower upper : ℕ) (D : Automaton) (det : Deterministic lower upper D) where
  module _ (p x : ℕ) (p_in : p < D.size) (above : lower ≤ x) (below : x ≤ upper) where
    pub successor_is : (e : Transition) → e ∈ D.transitions → e.from ≡ p → e.first ≤ x → x ≤ e.last → successor D p x ≡ e.to
    unfolding successor carries holds
    successor_is e m f a b =
        let o = det.one p x p_in above below in
        let c : carries p x e ≡ true = and_both (eqb e.from p) _ (eq-eqb _ _ f) (and_both (eqb e.kind 1) _ (eq-eqb _ _ (det.ranges e m)) (and_both (leb e.first x) _ (le-leb _ _ a) (le-leb _ _ b))) in
        let q : e ≡ o.0 = Memᴰ.eq_of_singleton (subst (λ (l : List Transition). e ∈ l) o.1 (filter_in (carries p x) m c)) in
        ap first_target o.1 ∙ ap (λ (d : Transition). d.to) (sym q)

    -- some transition holds x
    abbrev Held : Type 0
    Held = (e : Transition) × e ∈ D.transitions × (e.from ≡ p) × (e.first ≤ x) × (x ≤ e.last)

    pub successor_held : Held
    unfolding carries holds
    successor_held =
        let o = det.one p x p_in above below in
        let m : o.0 ∈ filter (carries p x) D.transitions = subst (λ (l : List Transition). o.0 ∈ l) (sym o.1) (Memᴰ.head refl) in
        let k = filter_out (carries p x) o.0 D.transitions m in
        let f = and_parts (eqb o.0.from p) _ k.1 in
        let g = and_parts (eqb o.0.kind 1) _ f.1 in
        let h = and_parts (leb o.0.first x) _ g.1 in
        (o.0, k.0, eqb-true _ _ f.0, leb-true _ _ h.0, leb-true _ _ h.1)

  module _ (ok : InBounds D) where
    pub next_inside : (p x : ℕ) → p < D.size → (lower ≤ x) × (x ≤ upper) → successor D p x < D.size
    next_inside p x h s =
        let e = successor_held p x h s.0 s.1 in
        subst (λ (q : ℕ). q < D.size) (sym (successor_is p x h s.0 s.1 e.0 e.1 e.2 e.3 e.4)) (ok.tos e.0 e.1)

    -- a run ends in the state that the word leads to, and there is one
    run_ends : {p q : ℕ} {w : List ℕ} → p < D.size → Word lower upper w → Run D p w q → q ≡ state_after D p w
    unfolding state_after
    run_ends h v stay = refl
    run_ends h v (skip e m f k r) = absurd (omega (arith, det.ranges e m))
    run_ends h (more above below v) (read {p = p} {a = x} {w = w} e m f k a b r) =
        run_ends (ok.tos e m) v r ∙ ap (λ (q : ℕ). state_after D q w) (sym (successor_is p x h above below e m f a b))

    run_made : (p : ℕ) {w : List ℕ} → p < D.size → Word lower upper w → Run D p w (state_after D p w)
    unfolding state_after
    run_made p h none = stay
    run_made p h (more {a = x} {w = w} above below v) =
        let e = successor_held p x h above below in
        read e.0 e.1 e.2 (det.ranges e.0 e.1) e.3 e.4
        (subst (λ (q : ℕ). Run D q w (state_after D (successor D p x) w)) (successor_is p x h above below e.0 e.1 e.2 e.3 e.4)
        (run_made (successor D p x) (next_inside p x h (above, below)) v))

    -- a word is accepted exactly when the accept word at its end is not 0
    pub accepts_after : (w : List ℕ) → Word lower upper w → Accepts D w ↔ (0 < accept_after D w)
    accepts_after w v = (
      λ h. subst (λ (q : ℕ). 0 < accept_of D q) (run_ends ok.starts v h.1) h.2,
      λ h. (state_after D D.start w, run_made D.start ok.starts v, h),
    )
