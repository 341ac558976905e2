-- The one pass over two runs: what holds after some of their equal triggers. Assumes nothing.
use Rattle.std.proofs.Common.{ℕ, ◌+◌, ◌<◌, List, [], ◌∷◌, ⊎_elim, ◌≡◌, refl}
use mathlib.Core.List.Memᴰ
use Rattle.lists.specs.Lists.{◌∈◌, Ascending}
use Rattle.lists.proofs.Members.{ascending_first, ascending_rest}
use Rattle.automata.specs.Automaton.{Transition}
use Rattle.automata.proofs.Ordered.{lex_trans, lex_irreflexive}
use Rattle.pairs.specs.inner.Pairs.{Pairs, classes, PairsKept}
use Rattle.equivalence.specs.Triggers.{SameTrigger, TriggersWithin}
use Rattle.equivalence.specs.inner.Rows.{Lower}
use Rattle.equivalence.proofs.Triggers.{trigger_turn, trigger_chain}
use Rattle.equivalence.proofs.Rows.{lower_apart, lower_right}

-- F and G go on as ds and es, after transitions of equal triggers that lead into one class
pub data Zipped (n1 : ℕ) (w : Pairs) (F G : List Transition) : List Transition → List Transition → Type 0 where
  whole : Zipped n1 w F G F G
  next : {d e : Transition} {ds es : List Transition} → SameTrigger d e → classes w d.to ≡ classes w (n1 + e.to) → Zipped n1 w F G (d ∷ ds) (e ∷ es) → Zipped n1 w F G ds es

module _ {n1 : ℕ} {w : Pairs} {F G : List Transition} where
  pub zipped_left : {ds es : List Transition} → Zipped n1 w F G ds es → (x : Transition) → x ∈ ds → x ∈ F
  zipped_left whole x m = m
  zipped_left (next s j z) x m = zipped_left z x (Memᴰ.tail m)

  pub zipped_right : {ds es : List Transition} → Zipped n1 w F G ds es → (x : Transition) → x ∈ es → x ∈ G
  zipped_right whole x m = m
  zipped_right (next s j z) x m = zipped_right z x (Memᴰ.tail m)

module _ {n1 : ℕ} {w : Pairs} {F G : List Transition} (f : Ascending Lower F) (g : Ascending Lower G) where
  left_sorted : {ds es : List Transition} → Zipped n1 w F G ds es → Ascending Lower ds
  left_sorted whole = f
  left_sorted (next s j z) = ascending_rest (left_sorted z)

  right_sorted : {ds es : List Transition} → Zipped n1 w F G ds es → Ascending Lower es
  right_sorted whole = g
  right_sorted (next s j z) = ascending_rest (right_sorted z)

-- more classes joined
pub zipped_kept : {n1 : ℕ} {w r : Pairs} {F G ds es : List Transition} → PairsKept w r → ((d : Transition) → d ∈ F → d.to < w.sets.n)
    → ((e : Transition) → e ∈ G → n1 + e.to < w.sets.n) → Zipped n1 w F G ds es → Zipped n1 r F G ds es
zipped_kept k a b whole = whole
zipped_kept {n1} k a b (next {d} {e} s j z) =
    next s (k.joins d.to (n1 + e.to) (a d (zipped_left z d (Memᴰ.head refl))) (b e (zipped_right z e (Memᴰ.head refl))) j) (zipped_kept k a b z)

-- equal triggers, which are joined
pub record Matched (n1 : ℕ) (w : Pairs) (ds es : List Transition) : Type 0 where
  pub there : TriggersWithin ds es
  pub back : TriggersWithin es ds
  pub joined : (d e : Transition) → d ∈ ds → e ∈ es → SameTrigger d e → classes w d.to ≡ classes w (n1 + e.to)

-- one more in front of ascending triggers
within_more : {d e : Transition} {ds es : List Transition} → SameTrigger d e → TriggersWithin ds es → TriggersWithin (d ∷ ds) (e ∷ es)
within_more {d} {e} s w x m = ⊎_elim (λ (q : x ≡ d). (e, Memᴰ.head refl, rw q s)) (λ k. let r = w x k in (r.0, Memᴰ.tail r.1, r.2)) (Memᴰ.cases_cons m)

within_less : {d e : Transition} {ds es : List Transition} → SameTrigger d e → Ascending Lower (d ∷ ds) → TriggersWithin (d ∷ ds) (e ∷ es) → TriggersWithin ds es
within_less {d} {e} {ds} {es} s a w x m =
    let (y, n, t) = w x (Memᴰ.tail m) in
    ⊎_elim (λ (q : y ≡ e). absurd (lower_apart (ascending_first a x m) (trigger_chain s (trigger_turn (rw q at t))))) (λ k. (y, k, t)) (Memᴰ.cases_cons n)

matched_more : {n1 : ℕ} {w : Pairs} {d e : Transition} {ds es : List Transition} → SameTrigger d e → classes w d.to ≡ classes w (n1 + e.to)
    → Ascending Lower (d ∷ ds) → Ascending Lower (e ∷ es) → Matched n1 w ds es → Matched n1 w (d ∷ ds) (e ∷ es)
matched_more {n1} {w} {d} {e} s j a b m = record {
  there = within_more s m.there;
  back = within_more (trigger_turn s) m.back;
  joined = λ x y k l t.
      ⊎_elim
      (λ (p : x ≡ d).
      ⊎_elim (λ (q : y ≡ e). rw (p, q) j) (λ l. absurd (lower_apart (ascending_first b y l) (trigger_chain (trigger_turn s) (rw p at t)))) (Memᴰ.cases_cons l))
      (λ k.
      ⊎_elim (λ (q : y ≡ e). absurd (lower_apart (ascending_first a x k) (trigger_chain s (trigger_turn (rw q at t))))) (λ l. m.joined x y k l t) (Memᴰ.cases_cons l))
      (Memᴰ.cases_cons k);
}

module _ {n1 : ℕ} {w : Pairs} {F G : List Transition} (f : Ascending Lower F) (g : Ascending Lower G) where
  pub zipped_matched : {ds es : List Transition} → Zipped n1 w F G ds es → Matched n1 w ds es → Matched n1 w F G
  zipped_matched whole m = m
  zipped_matched (next s j z) m = zipped_matched z (matched_more s j (left_sorted f g z) (right_sorted f g z) m)

  -- if F and G have the same triggers, so have ds and es
  zipped_there : {ds es : List Transition} → Zipped n1 w F G ds es → TriggersWithin F G → TriggersWithin ds es
  zipped_there whole h = h
  zipped_there (next s j z) h = within_less s (left_sorted f g z) (zipped_there z h)

  zipped_back : {ds es : List Transition} → Zipped n1 w F G ds es → TriggersWithin G F → TriggersWithin es ds
  zipped_back whole h = h
  zipped_back (next s j z) h = within_less (trigger_turn s) (right_sorted f g z) (zipped_back z h)

  -- so the next two have equal triggers, or there are none
  pub zipped_heads : {d e : Transition} {ds es : List Transition} → Zipped n1 w F G (d ∷ ds) (e ∷ es) → (SameTrigger d e → ⊥) → TriggersWithin F G → TriggersWithin G F → ⊥
  zipped_heads {d} {e} {ds} {es} z n h k =
      let (y, p, s) = zipped_there z h d (Memᴰ.head refl) in
      let (x, q, t) = zipped_back z k e (Memᴰ.head refl) in
      let up : Lower e d = ⊎_elim (λ (i : y ≡ e). absurd (n (rw i at s))) (λ i. lower_right e (ascending_first (right_sorted f g z) y i) (trigger_turn s)) (Memᴰ.cases_cons p) in
      let down : Lower d e = ⊎_elim (λ (i : x ≡ d). absurd (n (trigger_turn (rw i at t)))) (λ i. lower_right d (ascending_first (left_sorted f g z) x i) (trigger_turn t)) (Memᴰ.cases_cons q) in
      lex_irreflexive (lex_trans up down)

  pub zipped_left_over : {d : Transition} {ds : List Transition} → Zipped n1 w F G (d ∷ ds) [] → TriggersWithin F G → ⊥
  zipped_left_over {d} z h = let r = zipped_there z h d (Memᴰ.head refl) in elim r.1 [ ]

  pub zipped_right_over : {e : Transition} {es : List Transition} → Zipped n1 w F G [] (e ∷ es) → TriggersWithin G F → ⊥
  zipped_right_over {e} z h = let r = zipped_back z h e (Memᴰ.head refl) in elim r.1 [ ]
