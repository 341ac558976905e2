-- Rows of one trigger: in a run in order, the first of each row is the first record of its trigger, and triggers ascend from row to row. Assumes nothing.
use Rattle.std.proofs.Common.{ℕ, ◌≤◌, ◌<◌, Bool, true, false, cond, List, [], ◌∷◌, ◌⊎◌, inl, inr, ⊎_elim, ◌≡◌, refl, sym, ◌∙◌, arith}
use mathlib.Core.List.Memᴰ
use Rattle.lists.specs.Lists.{◌∈◌, Ascending, none, more}
use Rattle.automata.specs.Automaton.{Transition}
use Rattle.automata.specs.WellFormed.{here, later, Before}
use Rattle.automata.proofs.Ordered.{lex_trans, lex_irreflexive}
use Rattle.equivalence.specs.Triggers.{SameTrigger, FirstOfTrigger, same_trigger}
use Rattle.equivalence.specs.inner.Rows.{behind_row, leaders_behind, leaders, Lower}
use Rattle.equivalence.proofs.Triggers.{trigger_self, trigger_turn, trigger_chain, trigger_test, trigger_apart}

-- behind a row the rows go on
pub leaders_rest : (d : Transition) (es : List Transition) → leaders (behind_row d es) ≡ leaders_behind d es
unfolding leaders behind_row leaders_behind
leaders_rest d [] = refl
leaders_rest d (e ∷ es) = go (same_trigger d e) (leaders_rest d es)
  where
    go : (b : Bool) → leaders (behind_row d es) ≡ leaders_behind d es → leaders (cond b (behind_row d es) (e ∷ es)) ≡ cond b (leaders_behind d es) (e ∷ leaders_behind e es)
    go true ih = ih
    go false ih = refl

-- a leader is one of the transitions
behind_out : (d : Transition) (es : List Transition) (x : Transition) → x ∈ leaders_behind d es → x ∈ es
unfolding leaders_behind
behind_out d [] x m = m
behind_out d (e ∷ es) x m = go (same_trigger d e) m (behind_out d es x) (behind_out e es x)
  where
    go : (b : Bool) → x ∈ cond b (leaders_behind d es) (e ∷ leaders_behind e es) → (x ∈ leaders_behind d es → x ∈ es) → (x ∈ leaders_behind e es → x ∈ es) → x ∈ (e ∷ es)
    go true m f g = Memᴰ.tail (f m)
    go false m f g = ⊎_elim (λ (q : x ≡ e). Memᴰ.head q) (λ k. Memᴰ.tail (g k)) (Memᴰ.cases_cons m)

pub leaders_out : (es : List Transition) (x : Transition) → x ∈ leaders es → x ∈ es
unfolding leaders
leaders_out [] x m = m
leaders_out (d ∷ es) x m = ⊎_elim (λ (q : x ≡ d). Memᴰ.head q) (λ k. Memᴰ.tail (behind_out d es x k)) (Memᴰ.cases_cons m)

-- each transition has a leader of its trigger
abbrev Led : Transition → List Transition → Type 0
Led y ls = (l : Transition) × l ∈ ls × SameTrigger y l

behind_led : (d : Transition) (y : Transition) (es : List Transition) → y ∈ es → SameTrigger y d ⊎ Led y (leaders_behind d es)
unfolding leaders_behind
behind_led d y [] m = elim m [ ]
behind_led d y (e ∷ es) m = go (same_trigger d e) refl (behind_led d y es) (behind_led e y es)
  where
    go : (b : Bool) → same_trigger d e ≡ b → (y ∈ es → SameTrigger y d ⊎ Led y (leaders_behind d es))
        → (y ∈ es → SameTrigger y e ⊎ Led y (leaders_behind e es)) → SameTrigger y d ⊎ Led y (cond b (leaders_behind d es) (e ∷ leaders_behind e es))
    go true t f g = ⊎_elim (λ (q : y ≡ e). inl (rw q (trigger_turn (trigger_test d e t)))) f (Memᴰ.cases_cons m)
    go false t f g =
        ⊎_elim (λ (q : y ≡ e). inr (e, Memᴰ.head refl, rw q (trigger_self e)))
        (λ k. ⊎_elim (λ s. inr (e, Memᴰ.head refl, s)) (λ (l, n, s). inr (l, Memᴰ.tail n, s)) (g k))
        (Memᴰ.cases_cons m)

pub leaders_led : (es : List Transition) (y : Transition) → y ∈ es → (l : Transition) × l ∈ leaders es × SameTrigger y l
unfolding leaders
leaders_led [] y m = elim m [ ]
leaders_led (d ∷ es) y m =
    ⊎_elim (λ (q : y ≡ d). (d, Memᴰ.head refl, rw q (trigger_self d)))
    (λ k. ⊎_elim (λ s. (d, Memᴰ.head refl, s)) (λ (l, n, s). (l, Memᴰ.tail n, s)) (behind_led d y es k))
    (Memᴰ.cases_cons m)

-- the order of triggers
pub lower_apart : {d e : Transition} → Lower d e → SameTrigger d e → ⊥
lower_apart {d} {e} l s = lex_irreflexive (rw (s.kind, s.first, s.last) at l)

pub lower_right : (c : Transition) {d e : Transition} → Lower c d → SameTrigger d e → Lower c e
lower_right c l s = rw (s.kind, s.first, s.last) at l

-- of two transitions of a state in order, the later has a higher trigger, or the same and a higher target
data Next (d e : Transition) : Type 0 where
  lower : Lower d e → Next d e
  equal : SameTrigger d e → d.to < e.to → Next d e

next : {d e : Transition} → Before d e → d.from ≡ e.from → Next d e
next (here h) f = absurd (omega arith)
next (later a (here h)) f = lower (here h)
next (later a (later b (here h))) f = lower (later b (here h))
next (later a (later b (later c (here h)))) f = lower (later b (later c (here h)))
next (later a (later b (later c (later k (here h))))) f = equal (record { kind = b; first = c; last = k }) h
next (later a (later b (later c (later k (later t l))))) f = elim l [ ]

-- the transitions of a state p, in order
pub record Sorted (p : ℕ) (es : List Transition) : Type 0 where
  pub ascends : Ascending Before es
  pub from : (e : Transition) → e ∈ es → e.from ≡ p

module _ (p : ℕ) where
  sorted_tail : {d : Transition} {es : List Transition} → Sorted p (d ∷ es) → Sorted p es
  sorted_tail {d} {es} s = record { ascends = go s.ascends; from = λ e m. s.from e (Memᴰ.tail m) }
    where
      go : Ascending Before (d ∷ es) → Ascending Before es
      go (more f a) = a

  sorted_head : {d e : Transition} {es : List Transition} → Sorted p (d ∷ es) → e ∈ es → Next d e
  sorted_head {d} {e} {es} s m = next (go s.ascends) (s.from d (Memᴰ.head refl) ∙ sym (s.from e (Memᴰ.tail m)))
    where
      go : Ascending Before (d ∷ es) → Before d e
      go (more f a) = f e m

  -- without the second
  sorted_skip : {d e : Transition} {es : List Transition} → Sorted p (d ∷ e ∷ es) → Sorted p (d ∷ es)
  sorted_skip {d} {e} {es} s = record { ascends = go s.ascends; from = λ x m. ⊎_elim (λ (q : x ≡ d). s.from x (Memᴰ.head q)) (λ k. s.from x (Memᴰ.tail (Memᴰ.tail k))) (Memᴰ.cases_cons m) }
    where
      go : Ascending Before (d ∷ e ∷ es) → Ascending Before (d ∷ es)
      go (more f (more g a)) = more (λ y m. f y (Memᴰ.tail m)) a

  apart_lower : {d e : Transition} → Next d e → same_trigger d e ≡ false → Lower d e
  apart_lower (lower l) t = l
  apart_lower {d} {e} (equal s h) t = absurd (trigger_apart d e t s)

  -- the leaders behind d have higher triggers
  behind_lower : (d : Transition) (es : List Transition) → Sorted p (d ∷ es) → (x : Transition) → x ∈ leaders_behind d es → Lower d x
  unfolding leaders_behind
  behind_lower d [] s x m = elim m [ ]
  behind_lower d (e ∷ es) s x m = go (same_trigger d e) refl m (behind_lower d es (sorted_skip s) x) (behind_lower e es (sorted_tail s) x)
    where
      go : (b : Bool) → same_trigger d e ≡ b → x ∈ cond b (leaders_behind d es) (e ∷ leaders_behind e es) → (x ∈ leaders_behind d es → Lower d x) → (x ∈ leaders_behind e es → Lower e x) → Lower d x
      go true t m f g = f m
      go false t m f g =
          let l : Lower d e = apart_lower (sorted_head s (Memᴰ.head refl)) t in
          ⊎_elim (λ (q : x ≡ e). rw q l) (λ k. lex_trans l (g k)) (Memᴰ.cases_cons m)

  behind_ascends : (d : Transition) (es : List Transition) → Sorted p (d ∷ es) → Ascending Lower (leaders_behind d es)
  unfolding leaders_behind
  behind_ascends d [] s = none
  behind_ascends d (e ∷ es) s = go (same_trigger d e) (behind_ascends d es (sorted_skip s)) (behind_ascends e es (sorted_tail s))
    where
      go : (b : Bool) → Ascending Lower (leaders_behind d es) → Ascending Lower (leaders_behind e es) → Ascending Lower (cond b (leaders_behind d es) (e ∷ leaders_behind e es))
      go true f g = f
      go false f g = more (behind_lower e es (sorted_tail s)) g

  pub leaders_ascend : (es : List Transition) → Sorted p es → Ascending Lower (leaders es)
  unfolding leaders
  leaders_ascend [] s = none
  leaders_ascend (d ∷ es) s = more (behind_lower d es s) (behind_ascends d es s)

  -- a leader is the first record of its trigger
  head_first : (d : Transition) (es : List Transition) → Sorted p (d ∷ es) → FirstOfTrigger (d ∷ es) d
  head_first d es s = record { one = Memᴰ.head refl; lowest = λ e m t. ⊎_elim (λ (q : e ≡ d). rw q (omega arith)) (λ k. go e t (sorted_head s k)) (Memᴰ.cases_cons m) }
    where
      go : (e : Transition) → SameTrigger e d → Next d e → d.to ≤ e.to
      go e t (lower l) = absurd (lower_apart l (trigger_turn t))
      go e t (equal u h) = omega arith

  first_more : {d x : Transition} {es : List Transition} → (SameTrigger d x → ⊥) → FirstOfTrigger es x → FirstOfTrigger (d ∷ es) x
  first_more {d} {x} n f = record { one = Memᴰ.tail f.one; lowest = λ e m t. ⊎_elim (λ (q : e ≡ d). absurd (n (rw q at t))) (λ k. f.lowest e k t) (Memᴰ.cases_cons m) }

  behind_first : (d : Transition) (es : List Transition) → Sorted p (d ∷ es) → (x : Transition) → x ∈ leaders_behind d es → FirstOfTrigger es x
  unfolding leaders_behind
  behind_first d [] s x m = elim m [ ]
  behind_first d (e ∷ es) s x m = go (same_trigger d e) refl m (behind_first d es (sorted_skip s) x) (behind_first e es (sorted_tail s) x)
    where
      go : (b : Bool) → same_trigger d e ≡ b → x ∈ cond b (leaders_behind d es) (e ∷ leaders_behind e es)
          → (x ∈ leaders_behind d es → FirstOfTrigger es x) → (x ∈ leaders_behind e es → FirstOfTrigger es x) → FirstOfTrigger (e ∷ es) x
      go true t m f g = first_more (λ u. lower_apart (behind_lower d es (sorted_skip s) x m) (trigger_chain (trigger_test d e t) u)) (f m)
      go false t m f g =
          ⊎_elim (λ (q : x ≡ e). rw q (head_first e es (sorted_tail s)))
          (λ k. first_more (lower_apart (behind_lower e es (sorted_tail s) x k)) (g k)) (Memᴰ.cases_cons m)

  pub leaders_first : (es : List Transition) → Sorted p es → (x : Transition) → x ∈ leaders es → FirstOfTrigger es x
  unfolding leaders
  leaders_first [] s x m = elim m [ ]
  leaders_first (d ∷ es) s x m =
      ⊎_elim (λ (q : x ≡ d). rw q (head_first d es s)) (λ k. first_more (lower_apart (behind_lower d es s x k)) (behind_first d es s x k)) (Memᴰ.cases_cons m)
