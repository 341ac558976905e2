-- What a turn of the pass answers: the next cut, and the step.
use Prim.Native.Nat.{ℕ, ◌+◌, ◌≤◌, ◌<◌}
use mathlib.Core.Bool.{true, false}
use mathlib.Core.List.Memᴰ
use mathlib.Core.List.{List, ◌∷◌}
use mathlib.Core.Logic.{◌⊎◌, inl, inr, ⊎_elim}
use mathlib.Core.Path.{◌≡◌, refl, ◌∙◌}
use native.Mathlib.Omega.{arith}
use borrow.Author.Tests.{leb-true, leb-false, ltb-true, ltb-false}
use lib.Dec.{leb, ltb}
use lib.ListN.{length, get_or, drop, drop_of_length-le}
use Rattle.lists.specs.Lists.{◌∈◌}
use Rattle.lists.proofs.Members.{ascending_first}
use Rattle.lists.proofs.Parts.{drop_at}
use Rattle.lists.proofs.Tests.{test}
use Rattle.automata.specs.Automaton.{Transition}
use Rattle.ranges.specs.Cuts.{next_cut}
use Rattle.sets.specs.Sets.{Set}
use Rattle.sets.specs.inner.BitSet.{set_at}
use Rattle.sheets.specs.Sheet.{read}
use Rattle.sheets.proofs.Meaning.{read_well}
use Rattle.words.specs.Simulation.{outgoing, step}
use Rattle.sweep.specs.inner.Events.{event_at, events_at}
use Rattle.sweep.specs.inner.Sweep.{Mine, Rises, Ahead}
use Rattle.sweep.specs.inner.Passing.{row, Passing, Stopped, cut_at}
use Rattle.sweep.proofs.Sweep.{passes_later, passes_cut}
use Rattle.sweep.proofs.Stepping.{root_step}

-- one list, where the pass has stopped
module _ (k : ℕ) (s ev : List ℕ) (S : Set) (at a : ℕ) (w : Rises (events_at k s (drop at ev))) (p : Stopped k s ev S at a) where
  abbrev here : Transition
  here = event_at k s (get_or ev at 0)

  -- the event here is the first that is left
  least : (v : Transition) → v ∈ events_at k s (drop at ev) → (at < length ev) × (here.from ≤ v.from)
  least v m =
      ⊎_elim (λ (t : leb (length ev) at ≡ true). absurd (Memᴰ.not-nil (rw (drop_of_length-le ev (leb-true _ _ t)) at m)))
      (λ (t : leb (length ev) at ≡ false).
      let h : at < length ev = leb-false _ _ t in
      let r : Rises (here ∷ events_at k s (drop (at + 1) ev)) = rw (drop_at ev at h) at w in
      (h, ⊎_elim (λ (q : v ≡ here). rw q (omega arith)) (λ i. ascending_first r v i) (Memᴰ.cases_cons (rw (drop_at ev at h) at m))))
      (test (leb (length ev) at))

  ahead : Ahead k S (events_at k s (drop at ev)) a
  ahead v m h = let l = least v m in omega (arith, p.above l.0, l.1)

  -- what the cut at the place here is
  record Nearest (top c : ℕ) : Type 0 where
    above : a < c
    below : c ≤ top
    first : (v : Transition) → v ∈ events_at k s (drop at ev) → Mine S v → c ≤ v.from + k
    is : (c ≡ top) ⊎ ((v : Transition) × v ∈ events_at k s (drop at ev) × Mine S v × (c ≡ v.from + k))

  nearest : (top : ℕ) → a < top → Nearest top (cut_at k s ev at top)
  unfolding cut_at
  nearest top l =
      ⊎_elim
      (λ (t : leb (length ev) at ≡ true).
      rw t
      (record {
        above = l;
        below = omega arith;
        first = λ v m h. absurd (Memᴰ.not-nil (rw (drop_of_length-le ev (leb-true _ _ t)) at m));
        is = inl refl;
      }))
      (λ (t : leb (length ev) at ≡ false).
      let h : at < length ev = leb-false _ _ t in
      let g : a < here.from + k = p.above h in
      rw t
      (record {
        above = omega arith;
        below = omega arith;
        first = λ v m i. omega (arith, (least v m).1);
        is = ⊎_elim
            (λ (y : ltb (here.from + k) top ≡ true).
            let d : here.from + k < top = ltb-true _ _ y in
            inr (here, rw (drop_at ev at h) (Memᴰ.head refl), p.mine h, omega arith))
            (λ (y : ltb (here.from + k) top ≡ false). let d : top ≤ here.from + k = ltb-false _ _ y in inl (omega arith))
            (test (ltb (here.from + k) top));
      }))
      (test (leb (length ev) at))

module _ (s c opens ends : List ℕ) (S : Set) (i j a : ℕ) (r t : List ℕ) (p : Passing s c opens ends S i j a r t) where
  pub passing_later : (x : ℕ) → a ≤ x → Passing s c opens ends S i j x r t
  passing_later x l =
      record { closed = p.closed; opens_below = p.opens_below; ends_below = p.ends_below; in_opens = p.in_opens; in_ends = p.in_ends; long = p.long; tree = p.tree; passes = passes_later x l p.passes }

  module _ (f : Stopped 0 s opens S i a) (g : Stopped 1 s ends S j a) where
    far : Ahead 0 S (events_at 0 s (drop i opens)) a
    far = ahead 0 s opens S i a p.passes.opened.rises f

    far_ends : Ahead 1 S (events_at 1 s (drop j ends)) a
    far_ends = ahead 1 s ends S j a p.passes.ended.rises g

    pub turn_cut : (top x y : ℕ) → a < top → x ≡ cut_at 0 s opens i top → y ≡ cut_at 1 s ends j x → y ≡ next_cut a top (outgoing (read s) S)
    turn_cut top x y l d e =
        let m : Nearest 0 s opens S i a p.passes.opened.rises f top x = rw d (nearest 0 s opens S i a p.passes.opened.rises f top l) in
        let n : Nearest 1 s ends S j a p.passes.ended.rises g x y = rw e (nearest 1 s ends S j a p.passes.ended.rises g x m.above) in
        passes_cut p.passes far far_ends top y n.above (omega (arith, m.below, n.below))
        (λ v k h. omega (arith, m.first v k h, n.below))
        n.first
        (⊎_elim
        (λ (q : y ≡ x). ⊎_elim (λ (z : x ≡ top). inl (q ∙ z)) (λ z. inr (z.0, inl (z.1, z.2, q ∙ z.3))) m.is)
        (λ z. inr (z.0, inr (z.1, z.2, z.3)))
        n.is)

    pub turn_step : set_at t 4 ≡ step (read s) S a
    unfolding row
    turn_step = root_step (read s) (read_well s p.closed.accepted).states p.closed.accepted.few_states S t p.tree p.closed.rows p.passes far far_ends
