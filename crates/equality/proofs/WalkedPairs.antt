-- Pairs that were met from the starts: what holds with the first of them and with one more, and what is found where all are compared.
-- Assumes nothing.
use Rattle.std.proofs.Common.{ℕ, zero, suc, ◌+◌, ◌*◌, ◌≤◌, ◌<◌, true, false, List, ⊎_elim, ◌≡◌, refl, sym, ap, subst, ◌∙◌, arith, ltb-true, ltb-false, ltb, length}
use native.Mathlib.Decide.{ℕ_discrete}
use Rattle.lists.proofs.Tests.{test}
use Rattle.dsu.specs.Classes.{Classes}
use Rattle.dsu.specs.inner.Generated.{Ker}
use Rattle.dsu.proofs.Classes.{classes_moved}
use Rattle.dsu.proofs.Generated.{generated_into}
use Rattle.pairs.specs.inner.Pairs.{Pairs, classes, one_at, two_at, NoPairs, PairJoined}
use Rattle.pairs.proofs.Laws.{pairs_fewer, pairs_some}
use Rattle.automata.specs.Successors.{successor}
use Rattle.automata.specs.Automaton.{accept_of}
use Rattle.determinizations.specs.Two.{Two, Symbol, total_size}
use Rattle.equality.specs.Forced.{left, right, successor_in, JoinsSuccessors, Forced}
use Rattle.equality.specs.inner.Walking.{trail_of, MetPair, WalkedPairs, SuccessorsJoined, StepPut}
use Rattle.equality.specs.Verdict.{Equal}
use Rattle.equality.proofs.Forced.{accept_in, Total, successor_left, accept_left, successor_right, accept_right, forced_least, forced_in, agree_words}
use Rattle.equality.proofs.Classes.{classes_one}

module _ (t : Two) (total : Total t) (w : Pairs) (l : List ℕ) (v : WalkedPairs t w l) where
  -- each pair is forced by the starts
  pair_forced_below : (k i : ℕ) → i < k → i < w.made → Forced t (left t (one_at w i)) (right t (two_at w i))
  pair_forced_below zero i a b = absurd (omega arith)
  pair_forced_below (suc k) i a b = by_place (λ j c. pair_forced_below k j c) (ℕ_discrete i 0)
    where
      by_place : ((j : ℕ) → j < k → j < w.made → Forced t (left t (one_at w j)) (right t (two_at w j))) → Dec (i ≡ 0) → Forced t (left t (one_at w i)) (right t (two_at w i))
      by_place ih (yes e) = rw (e, v.at_one, v.at_two) Forced.starts
      by_place ih (no e) =
          let m = v.met i b (omega arith) in
          let f = (trail_of l).from i in
          let x = (trail_of l).by i in
          let j = m.earlier in
          subst (λ (p : ℕ). Forced t p (right t (two_at w i))) (successor_left t (one_at w f) x (v.in_one f (omega arith)) ∙ sym m.next_one)
          (subst (λ (q : ℕ). Forced t (successor_in t (left t (one_at w f)) x) q) (successor_right t (two_at w f) x ∙ ap (right t) (sym m.next_two))
          (Forced.follow x m.symbol (ih f (omega arith) (omega arith))))

  pair_forced : (i : ℕ) → i < w.made → Forced t (left t (one_at w i)) (right t (two_at w i))
  pair_forced i b = pair_forced_below (suc i) i (omega arith) b

  -- what holds of all that the pairs generate holds of what is joined
  joined_into : (R : ℕ → ℕ → Type 0) → ((p : ℕ) → p < total_size t → R p p) → ((p q : ℕ) → R p q → R q p) → ((p q s : ℕ) → R p q → R q s → R p s)
      → ((i : ℕ) → i < w.made → R (left t (one_at w i)) (right t (two_at w i))) → (p q : ℕ) → p < total_size t → q < total_size t
      → classes w p ≡ classes w q → R p q
  joined_into R s u c h p q hp hq e = generated_into R (λ p b. s p (omega (arith, v.is_n))) u c h (v.valid.spanned.only p q (omega (arith, v.is_n)) (omega (arith, v.is_n)) e)

  -- what is joined is forced, and agrees
  pub joined_forced : (p q : ℕ) → p < total_size t → q < total_size t → classes w p ≡ classes w q → Forced t p q
  joined_forced = joined_into (Forced t) (λ p b. Forced.reflexive b) (λ p q l. Forced.symmetric l) (λ p q s l m. Forced.transitive l m) pair_forced

  pub joined_agree : (p q : ℕ) → p < total_size t → q < total_size t → classes w p ≡ classes w q → accept_in t p ≡ accept_in t q
  joined_agree = joined_into (λ (p q : ℕ). accept_in t p ≡ accept_in t q) (λ p b. refl) (λ p q l. sym l) (λ p q s l m. l ∙ m)
      (λ i b. accept_left t (one_at w i) (v.in_one i b) ∙ v.agree i b ∙ sym (accept_right t (two_at w i)))

  module _ (closed : SuccessorsJoined t w w.made) where
    joins : JoinsSuccessors t (Ker (classes w))
    joins = record {
      equivalence = record { reflexive = λ p h. refl; symmetric = λ p q h k e. sym e; transitive = λ p q s h k l d e. d ∙ e };
      starts = v.started;
      follow = λ p q x hp hq s. joined_into (λ (p q : ℕ). classes w (successor_in t p x) ≡ classes w (successor_in t q x)) (λ p b. refl) (λ p q l. sym l) (λ p q s l m. l ∙ m)
          (λ i b. rw (successor_left t (one_at w i) x (v.in_one i b), successor_right t (two_at w i) x) (closed i b x s)) p q hp hq;
    }

    pub forced_joined : (p q : ℕ) → Forced t p q → classes w p ≡ classes w q
    forced_joined p q l = forced_least t total (Ker (classes w)) joins l

    -- all pairs are compared: the automata are equal, and the joins are the states less the classes
    pub ended : Equal t w.made
    ended = record {
      words = agree_words t total (λ p q l. let b = forced_in t total l in joined_agree p q b.0 b.1 (forced_joined p q l));
      number = v.valid.spanned.number;
      counted = classes_moved (λ p q a b e. joined_forced p q a b e) (λ p q a b l. forced_joined p q l) (subst (λ (n : ℕ). Classes (Ker (classes w)) n v.valid.spanned.number) v.is_n v.valid.spanned.classes);
      joined = v.valid.spanned.counted ∙ v.is_n;
    }

  -- two successors that differ: two classes at least are left, so the word to them is short
  pub short : (i x : ℕ) → i < w.made → Symbol t x
      → (accept_of t.one (successor t.one (one_at w i) x) ≡ accept_of t.two (successor t.two (two_at w i) x) → ⊥)
      → (trail_of l).depth i + 1 + 2 ≤ total_size t
  short i x b s d = omega (arith, more_than v.valid.spanned.number refl, v.shallow i b, v.valid.spanned.counted, v.is_n)
    where
      p : ℕ
      p = successor t.one (one_at w i) x

      q : ℕ
      q = successor t.two (two_at w i) x

      p_in : p < t.one.size
      p_in = total.first.next_in (one_at w i) x (v.in_one i b) s

      q_in : q < t.two.size
      q_in = total.second.next_in (two_at w i) x (v.in_two i b) s

      apart : classes w (left t p) ≡ classes w (right t q) → ⊥
      apart e = d (sym (accept_left t p p_in) ∙ joined_agree (left t p) (right t q) (omega (arith, p_in)) (omega (arith, q_in)) e ∙ accept_right t q)

      two_classes : (k : ℕ) → k ≡ v.valid.spanned.number → k ≤ 1 → ⊥
      two_classes k e h = apart (classes_one v.valid.spanned.classes (omega (arith, sym e)) (left t p) (right t q) (omega (arith, p_in, v.is_n)) (omega (arith, q_in, v.is_n)))

      more_than : (k : ℕ) → k ≡ v.valid.spanned.number → 2 ≤ k
      more_than zero e = absurd (two_classes zero e (omega arith))
      more_than (suc zero) e = absurd (two_classes (suc zero) e (omega arith))
      more_than (suc (suc k)) e = omega arith

  -- fewer pairs than states
  pub room : w.made < total_size t
  room = omega (arith, v.is_n, pairs_fewer t.one.size w v.valid (omega (arith, v.is_n, total.first.start_in)))

  -- the starts are the first pair
  pub some : 0 < w.made
  some = pairs_some t.one.size t.one.start t.two.start w v.valid total.first.start_in (omega (arith, v.is_n, total.first.start_in)) (omega (arith, v.is_n, total.second.start_in)) v.started

-- the starts joined
module _ (t : Two) (total : Total t) (f : Pairs) (none : NoPairs (total_size t) f) (w : Pairs) (j : PairJoined t.one.size t.one.start t.two.start f w)
    (l : List ℕ) (long : length l ≡ 1536) where
  pub begun : (trail_of l).depth 0 ≡ 0 → accept_of t.one t.one.start ≡ accept_of t.two t.two.start → WalkedPairs t w l
  begun z e = record {
    valid = j.valid;
    is_n = is_n;
    long = long;
    started = j.joined;
    at_one = first.1;
    at_two = first.2;
    at_top = z;
    met = λ i h k. absurd (omega (arith, only i h));
    in_one = λ i h. rw (only i h, first.1) total.first.start_in;
    in_two = λ i h. rw (only i h, first.2) total.second.start_in;
    shallow = λ i h. rw (only i h, z) (omega arith);
    agree = λ i h. rw (only i h, first.1, first.2) e;
  }
    where
      is_n : w.sets.n ≡ total_size t
      is_n = j.kept.same_n ∙ none.is_n

      first : (0 ≡ f.made) × (one_at w 0 ≡ t.one.start) × (two_at w 0 ≡ t.two.start)
      first = j.new 0 (omega (arith, none.made)) (pairs_some t.one.size t.one.start t.two.start w j.valid total.first.start_in (omega (arith, is_n, total.first.start_in)) (omega (arith, is_n, total.second.start_in)) j.joined)

      only : (i : ℕ) → i < w.made → ◌≡◌ {A = ℕ} i 0
      only i h = (j.new i (omega (arith, none.made)) h).0 ∙ none.made

-- the successors of pair i under x joined
module _ (t : Two) (total : Total t) (w r : Pairs) (l l' : List ℕ) (i x : ℕ) (v : WalkedPairs t w l) (i_in : i < w.made) (x_in : Symbol t x)
    (j : PairJoined t.one.size (successor t.one (one_at w i) x) (successor t.two (two_at w i) x) w r) (s : StepPut l l' w.made r.made i x) where
  -- what holds of the pairs before, and of a new one
  each : (P : ℕ → Type 0) → ((k : ℕ) → k < w.made → P k) → (w.made < r.made → P w.made) → (k : ℕ) → k < r.made → P k
  each P old new k h =
      ⊎_elim (λ (b : ltb k w.made ≡ true). old k (ltb-true k w.made b))
      (λ (b : ltb k w.made ≡ false). let e = (j.new k (ltb-false k w.made b) h).0 in subst P (sym e) (new (omega (arith, e)))) (test (ltb k w.made))

  pub one_more : accept_of t.one (successor t.one (one_at w i) x) ≡ accept_of t.two (successor t.two (two_at w i) x) → WalkedPairs t r l'
  one_more e = record {
    valid = j.valid;
    is_n = j.kept.same_n ∙ v.is_n;
    long = s.long;
    started = j.kept.joins (left t t.one.start) (right t t.two.start) (omega (arith, v.is_n, total.first.start_in)) (omega (arith, v.is_n, total.second.start_in)) v.started;
    at_one = j.kept.one 0 (some t total w l v) ∙ v.at_one;
    at_two = j.kept.two 0 (some t total w l v) ∙ v.at_two;
    at_top = s.kept 2 (omega (arith, some t total w l v)) ∙ v.at_top;
    met = each (λ (k : ℕ). 0 < k → MetPair t r (trail_of l') k) met_old (λ h z. met_new h);
    in_one = each (λ (k : ℕ). one_at r k < t.one.size) (λ k h. rw (j.kept.one k h) (v.in_one k h)) (λ h. rw (new_one h) (total.first.next_in (one_at w i) x (v.in_one i i_in) x_in));
    in_two = each (λ (k : ℕ). two_at r k < t.two.size) (λ k h. rw (j.kept.two k h) (v.in_two k h)) (λ h. rw (new_two h) (total.second.next_in (two_at w i) x (v.in_two i i_in) x_in));
    shallow = each (λ (k : ℕ). (trail_of l').depth k ≤ k) (λ k h. rw (old_depth k h) (v.shallow k h)) (λ h. omega (arith, s.put_depth h, v.shallow i i_in));
    agree = each (λ (k : ℕ). accept_of t.one (one_at r k) ≡ accept_of t.two (two_at r k)) (λ k h. rw (j.kept.one k h, j.kept.two k h) (v.agree k h)) (λ h. rw (new_one h, new_two h) e);
  }
    where
      old_from : (k : ℕ) → k < w.made → (trail_of l').from k ≡ (trail_of l).from k
      old_from k h = s.kept (3 * k) (omega arith)

      old_by : (k : ℕ) → k < w.made → (trail_of l').by k ≡ (trail_of l).by k
      old_by k h = s.kept (3 * k + 1) (omega arith)

      old_depth : (k : ℕ) → k < w.made → (trail_of l').depth k ≡ (trail_of l).depth k
      old_depth k h = s.kept (3 * k + 2) (omega arith)

      new_one : w.made < r.made → one_at r w.made ≡ successor t.one (one_at w i) x
      new_one h = (j.new w.made (omega arith) h).1

      new_two : w.made < r.made → two_at r w.made ≡ successor t.two (two_at w i) x
      new_two h = (j.new w.made (omega arith) h).2

      met_old : (k : ℕ) → k < w.made → 0 < k → MetPair t r (trail_of l') k
      met_old k h z =
          let m = v.met k h z in
          let f-in : (trail_of l).from k < w.made = omega (arith, m.earlier) in
          record {
            earlier = rw (old_from k h) m.earlier;
            symbol = rw (old_by k h) m.symbol;
            next_one = rw (old_from k h, old_by k h, j.kept.one k h, j.kept.one ((trail_of l).from k) f-in) m.next_one;
            next_two = rw (old_from k h, old_by k h, j.kept.two k h, j.kept.two ((trail_of l).from k) f-in) m.next_two;
            deeper = rw (old_from k h, old_depth k h, old_depth ((trail_of l).from k) f-in) m.deeper;
          }

      met_new : w.made < r.made → MetPair t r (trail_of l') w.made
      met_new h = record {
        earlier = omega (arith, s.put_from h);
        symbol = rw (s.put_by h) x_in;
        next_one = rw (s.put_from h, s.put_by h, new_one h, j.kept.one i i_in) refl;
        next_two = rw (s.put_from h, s.put_by h, new_two h, j.kept.two i i_in) refl;
        deeper = rw (s.put_from h, s.put_depth h, old_depth i i_in) refl;
      }
