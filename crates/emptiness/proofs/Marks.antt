-- The marks and the stack of the search: the laws by which its functions over a run are proved.
use Prim.Native.Nat.{ℕ, zero, suc, ◌+◌, ◌-◌, ◌≤◌, ◌<◌}
use mathlib.Core.Bool.{Bool, true, false, cond}
use mathlib.Core.List.Memᴰ
use mathlib.Core.List.{List, [], ◌∷◌}
use mathlib.Core.Logic.{◌⊎◌, inl, inr, ⊎_elim}
use mathlib.Core.Path.{◌≡◌, refl, sym, ◌∙◌, ap, subst}
use native.Mathlib.Nat.{eq-or-lt_of_le}
use native.Mathlib.Omega.{arith}
use borrow.Author.Rules.{rules}
use borrow.Author.Tests.{eq-eqb, eqb-true, eqb-false}
use lib.Bits.{bit_and, and_le_l, and_le_r}
use lib.Dec.{eqb}
use lib.ListN.{length, get_or, drop, set, length-set}
use lib.Seq.{get_or-set_same, get_or-set_other}
use Rattle.lists.specs.Lists.{◌∈◌, filter}
use Rattle.lists.proofs.Tests.{test}
use Rattle.automata.specs.Automaton.{Transition}
use Rattle.automata.specs.Records.{read_records}
use Rattle.automata.specs.inner.Records.{record_at}
use Rattle.automata.proofs.Records.{records_at_lem, records_end}
use Rattle.sheets.specs.inner.Runs.{Named}
use Rattle.sheets.proofs.Named.{named_target, named_next}
use Rattle.emptiness.specs.inner.Marks.{Marked, unmet, StackRoom, PushedState, was_met, was_unmet, Pushed}

-- one mark more
module _ (marks : List ℕ) (t : ℕ) (l : t < length marks) where
  pub mark_here : Marked (set marks t 1) t
  mark_here = rw (get_or-set_same marks t 1 0 l) (omega arith)

  pub mark_out : (q : ℕ) → Marked (set marks t 1) q → (q ≡ t) ⊎ Marked marks q
  mark_out q h = ⊎_elim (λ e. inl (eqb-true q t e)) (λ n. inr (rw (get_or-set_other marks t q 1 0 (eqb-false q t n)) at h)) (test (eqb q t))

  pub mark_old : (q : ℕ) → Marked marks q → Marked (set marks t 1) q
  mark_old q h = ⊎_elim (λ e. subst (Marked (set marks t 1)) (sym (eqb-true q t e)) mark_here) (λ n. rw (get_or-set_other marks t q 1 0 (eqb-false q t n)) h) (test (eqb q t))

pub unmet_less : (marks : List ℕ) (t : ℕ) → t < length marks → get_or marks t 0 ≡ 0 → suc (unmet (set marks t 1)) ≡ unmet marks
unfolding unmet filter
unmet_less [] t l h = absurd (omega arith)
unmet_less (x ∷ marks) zero l h = rw (eq-eqb x 0 h)
unmet_less (x ∷ marks) (suc t) l h = go (eqb x 0) (unmet_less marks t (omega arith) h)
  where
    go : (b : Bool) → suc (unmet (set marks t 1)) ≡ unmet marks
        → suc (length (cond b (x ∷ filter (λ y. eqb y 0) (set marks t 1)) (filter (λ y. eqb y 0) (set marks t 1)))) ≡ length (cond b (x ∷ filter (λ y. eqb y 0) marks) (filter (λ y. eqb y 0) marks))
    go true e = ap suc e
    go false e = e

-- a state that may be put on the stack
module _ (marks stack : List ℕ) (top t : ℕ) (u : t < 256) (r : StackRoom marks stack top) where
  state_inside : t < length marks
  state_inside = omega (arith, r.wide)

  module _ (z : get_or marks t 0 ≡ 0) where
    state_fewer : suc (unmet (set marks t 1)) ≡ unmet marks
    state_fewer = unmet_less marks t state_inside z

    pub state_place : top < length stack
    state_place = omega (arith, r.enough, r.long, state_fewer)

pub ruleset state_laws = (was_met, was_unmet, state_place, rules)

-- one transition of those that are still to be followed
module _ (marks stack : List ℕ) (top : ℕ) (es : List Transition) (d : Transition) (ds : List Transition) (m s : List ℕ) (e : ℕ)
    (p : Pushed marks stack top es (d ∷ ds) m s e) where
  pushed_met : Marked m d.to → Pushed marks stack top es ds m s e
  pushed_met h =
      record {
        room = p.room;
        grows = p.grows;
        total = p.total;
        among = λ x i. p.among x (Memᴰ.tail i);
        old = p.old;
        targets = λ x i. ⊎_elim inl (one x) (p.targets x i);
        stacked = p.stacked;
        keeps = p.keeps;
        sources = p.sources;
        entered = p.entered;
      }
    where
      one : (x : Transition) → x ∈ (d ∷ ds) → Marked m x.to ⊎ (x ∈ ds)
      one x (Memᴰ.head q) = inl (subst (λ (y : Transition). Marked m y.to) (sym q) h)
      one x (Memᴰ.tail i) = inr i

  module _ (u : d.to < 256) (z : get_or m d.to 0 ≡ 0) where
    inside : d.to < length m
    inside = state_inside m s e d.to u p.room

    fewer : suc (unmet (set m d.to 1)) ≡ unmet m
    fewer = state_fewer m s e d.to u p.room z

    place : e < length s
    place = state_place m s e d.to u p.room z

    same : (j : ℕ) → j < e → get_or (set s e d.to) j 0 ≡ get_or s j 0
    same j h = get_or-set_other s e j d.to 0 (omega arith)

    pushed_new : Pushed marks stack top es ds (set m d.to 1) (set s e d.to) (e + 1)
    pushed_new =
        record {
          room = record { wide = length-set m d.to 1 ∙ p.room.wide; long = length-set s e d.to ∙ p.room.long; enough = omega (arith, p.room.enough, fewer) };
          grows = omega (arith, p.grows);
          total = omega (arith, p.total, fewer);
          among = λ x i. p.among x (Memᴰ.tail i);
          old = λ q h. mark_old m d.to inside q (p.old q h);
          targets = λ x i. ⊎_elim (λ h. inl (mark_old m d.to inside x.to h)) (one x) (p.targets x i);
          stacked = λ q h.
              ⊎_elim (λ c. inr (e, p.grows, omega arith, get_or-set_same s e d.to 0 place ∙ sym c))
              (λ c. ⊎_elim inl (λ r. inr (r.0, r.1, below r.2, same r.0 r.2 ∙ r.3)) (p.stacked q c))
              (mark_out m d.to inside q h);
          keeps = λ j h. same j (omega (arith, p.grows)) ∙ p.keeps j h;
          sources = λ j a b. last j b (λ c. (d, p.among d (Memᴰ.head refl), c)) (λ c o. let r = p.sources j a c in (r.0, r.1, o ∙ r.2));
          entered = λ j a b.
              last j b (λ c. rw c (mark_here m d.to inside)) (λ c o. rw o (mark_old m d.to inside _ (p.entered j a c)));
        }
      where
        one : (x : Transition) → x ∈ (d ∷ ds) → Marked (set m d.to 1) x.to ⊎ (x ∈ ds)
        one x (Memᴰ.head q) = inl (subst (λ (y : Transition). Marked (set m d.to 1) y.to) (sym q) (mark_here m d.to inside))
        one x (Memᴰ.tail i) = inr i

        below : {j : ℕ} → j < e → j < e + 1
        below h = omega arith

        last : {X : Type 0} (j : ℕ) → j < e + 1 → (get_or (set s e d.to) j 0 ≡ d.to → X) → ((j < e) → get_or (set s e d.to) j 0 ≡ get_or s j 0 → X) → X
        last j h f g =
            ⊎_elim (λ (c : j ≡ e). f (ap (λ (i : ℕ). get_or (set s e d.to) i 0) c ∙ get_or-set_same s e d.to 0 place)) (λ (c : j < e). g c (same j c))
            (eq-or-lt_of_le (le_of h))
          where
            le_of : j < e + 1 → j ≤ e
            le_of k = omega arith

-- a run, record by record
pub push_begins : (marks stack run : List ℕ) (from top : ℕ) → StackRoom marks stack top → Pushed marks stack top (read_records (drop from run)) (read_records (drop from run)) marks stack top
push_begins marks stack run from top r =
    record {
      room = r;
      grows = omega arith;
      total = refl;
      among = λ x i. i;
      old = λ q h. h;
      targets = λ x i. inr i;
      stacked = λ q h. inl h;
      keeps = λ j h. refl;
      sources = λ j a b. absurd (omega arith);
      entered = λ j a b. absurd (omega arith);
    }

module _ (marks stack run : List ℕ) (from top : ℕ) where
  pub push_ended : (at : ℕ) (m s : List ℕ) (e : ℕ) → Pushed marks stack top (read_records (drop from run)) (read_records (drop at run)) m s e → length run - at < 5
      → Pushed marks stack top (read_records (drop from run)) [] m s e
  push_ended at m s e p h = subst (λ (ds : List Transition). Pushed marks stack top (read_records (drop from run)) ds m s e) (records_end run at h) p

  module _ (at : ℕ) (m s : List ℕ) (e : ℕ) (p : Pushed marks stack top (read_records (drop from run)) (read_records (drop at run)) m s e)
      (n : Named 256 (read_records (drop at run))) (h : 5 ≤ length run - at) where
    here : Pushed marks stack top (read_records (drop from run)) (record_at run at ∷ read_records (drop (at + 5) run)) m s e
    here = subst (λ (ds : List Transition). Pushed marks stack top (read_records (drop from run)) ds m s e) (records_at_lem run at h) p

    push_next : (m' s' : List ℕ) (e' : ℕ) → PushedState m s e (get_or run (at + 4) 0) m' s' e'
        → Pushed marks stack top (read_records (drop from run)) (read_records (drop (at + 5) run)) m' s' e'
    push_next _ _ _ (was_met z) = pushed_met marks stack top (read_records (drop from run)) (record_at run at) _ m s e here (omega (arith, z))
    push_next _ _ _ (was_unmet z) = pushed_new marks stack top (read_records (drop from run)) (record_at run at) _ m s e here (named_target run at n h) z

    pub push_last : length run - at < 10 → (m' s' : List ℕ) (e' : ℕ) → PushedState m s e (get_or run (at + 4) 0) m' s' e'
        → Pushed marks stack top (read_records (drop from run)) [] m' s' e'
    push_last l m' s' e' a = push_ended (at + 5) m' s' e' (push_next m' s' e' a) (omega arith)

-- two records of the run
module _ (run : List ℕ) (at : ℕ) (n : Named 256 (read_records (drop at run))) (h : 10 ≤ length run - at) where
  nine : at + 5 + 4 ≡ at + 9
  nine = omega arith

  ten : at + 5 + 5 ≡ at + 10
  ten = omega arith

  pub named_first_target : get_or run (at + 4) 0 < 256
  named_first_target = named_target run at n (omega arith)

  named_second : Named 256 (read_records (drop (at + 5) run))
  named_second = named_next run at n (omega arith)

  pub named_second_target : get_or run (at + 9) 0 < 256
  named_second_target = rw nine at (named_target run (at + 5) named_second (omega arith))

  pub named_two : Named 256 (read_records (drop (at + 10) run))
  named_two = rw ten at (named_next run (at + 5) named_second (omega arith))

  module _ (marks stack : List ℕ) (from top : ℕ) (m s : List ℕ) (e : ℕ) (p : Pushed marks stack top (read_records (drop from run)) (read_records (drop at run)) m s e) where
    module _ (m' s' : List ℕ) (e' : ℕ) (a : PushedState m s e (get_or run (at + 4) 0) m' s' e') where
      first : Pushed marks stack top (read_records (drop from run)) (read_records (drop (at + 5) run)) m' s' e'
      first = push_next marks stack run from top at m s e p n (omega arith) m' s' e' a

      pub push_second_room : StackRoom m' s' e'
      push_second_room = first.room

      pub push_two : (m'' s'' : List ℕ) (e'' : ℕ) → PushedState m' s' e' (get_or run (at + 9) 0) m'' s'' e''
          → Pushed marks stack top (read_records (drop from run)) (read_records (drop (at + 10) run)) m'' s'' e''
      push_two m'' s'' e'' b = rw ten at (push_next marks stack run from top (at + 5) m' s' e' first named_second (omega arith) m'' s'' e'' (rw nine b))

    pub push_none : (bit_and (get_or m (get_or run (at + 4) 0) 0) (get_or m (get_or run (at + 9) 0) 0) ≡ 0 → ⊥)
        → Pushed marks stack top (read_records (drop from run)) (read_records (drop (at + 10) run)) m s e
    push_none z = push_two m s e (was_met (λ o. z (omega (arith, and_le_l x y)))) m s e (was_met (λ o. z (omega (arith, and_le_r x y))))
      where
        x : ℕ
        x = get_or m (get_or run (at + 4) 0) 0

        y : ℕ
        y = get_or m (get_or run (at + 9) 0) 0

pub ruleset push_laws = (push_begins, push_ended, push_last, push_second_room, push_none, named_target, named_first_target, named_second_target, named_two, rules)
