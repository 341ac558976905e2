-- What the joins of a finished walk mean. States that are joined have the same acceptance and the same triggers, and what equal triggers lead
-- to is joined again: this holds of each pair, so of all that the pairs generate, and so of every reached pair. Assumes nothing.
use Rattle.std.proofs.Common.{ℕ, ◌+◌, ◌-◌, ◌<◌, cond, List, map, ◌≡◌, refl, sym, ap, subst, ◌∙◌, arith, lt-ltb, le-ltb, ltb, get_or}
use Rattle.lists.proofs.Members.{map_in, map_out}
use Rattle.automata.specs.Automaton.{Transition, Automaton, InBounds, leaving}
use Rattle.dsu.proofs.Generated.{generated_into}
use Rattle.pairs.specs.inner.Pairs.{Pairs, classes, one_at, two_at, ValidPairs}
use Rattle.equivalence.specs.Triggers.{SameTrigger, FirstOfTrigger, TriggersWithin}
use Rattle.equivalence.specs.Equivalent.{ReachedByTriggers, start, step, Alike}
use Rattle.equivalence.proofs.Triggers.{trigger_turn, trigger_chain, first_target_lem, first_exists, within_self, within_chain}
use Rattle.equivalence.proofs.Exact.{reached_in}

-- the states x and y, whose accept words and transitions are given for each number, agree, where f names the classes
pub record Bisimilar (accept : ℕ → ℕ) (out : ℕ → List Transition) (f : ℕ → ℕ) (x y : ℕ) : Type 0 where
  pub accepts : accept x ≡ accept y
  pub there : TriggersWithin (out x) (out y)
  pub back : TriggersWithin (out y) (out x)
  pub joined : (d e : Transition) → FirstOfTrigger (out x) d → FirstOfTrigger (out y) e → SameTrigger d e → f d.to ≡ f e.to

module _ (accept : ℕ → ℕ) (out : ℕ → List Transition) (f : ℕ → ℕ) where
  bisimilar_self : (x : ℕ) → Bisimilar accept out f x x
  bisimilar_self x = record { accepts = refl; there = within_self (out x); back = within_self (out x); joined = λ d e p q s. ap f (first_target_lem p q s) }

  bisimilar_turn : {x y : ℕ} → Bisimilar accept out f x y → Bisimilar accept out f y x
  bisimilar_turn b = record { accepts = sym b.accepts; there = b.back; back = b.there; joined = λ d e p q s. sym (b.joined e d q p (trigger_turn s)) }

  bisimilar_chain : {x y z : ℕ} → Bisimilar accept out f x y → Bisimilar accept out f y z → Bisimilar accept out f x z
  bisimilar_chain {x} {y} {z} a b = record {
    accepts = a.accepts ∙ b.accepts;
    there = within_chain a.there b.there;
    back = within_chain b.back a.back;
    joined = λ d e p q s.
        let (m, i, t) = a.there d p.one in
        let (g, u, v) = first_exists (out y) m i in
        let k = trigger_chain t v in
        a.joined d g p u k ∙ b.joined g e u q (trigger_chain (trigger_turn k) s);
  }

-- two automata side by side
module _ (A B : Automaton) where
  abbrev shifted : Transition → Transition
  shifted e = record { from = e.from; kind = e.kind; first = e.first; last = e.last; to = A.size + e.to }

  accept_in : ℕ → ℕ
  accept_in x = cond (ltb x A.size) (get_or A.accept x 0) (get_or B.accept (x - A.size) 0)

  out_of : ℕ → List Transition
  out_of x = cond (ltb x A.size) (leaving A x) (map shifted (leaving B (x - A.size)))

  behind : (q : ℕ) → A.size + q - A.size ≡ q
  behind q = omega arith

  accept_left : (p : ℕ) → p < A.size → accept_in p ≡ get_or A.accept p 0
  unfolding accept_in
  accept_left p h = rw (lt-ltb p A.size h)

  accept_right : (q : ℕ) → accept_in (A.size + q) ≡ get_or B.accept q 0
  unfolding accept_in
  accept_right q = rw (le-ltb (A.size + q) A.size (omega arith), behind q)

  out_left : (p : ℕ) → p < A.size → out_of p ≡ leaving A p
  unfolding out_of
  out_left p h = rw (lt-ltb p A.size h)

  out_right : (q : ℕ) → out_of (A.size + q) ≡ map shifted (leaving B q)
  unfolding out_of
  out_right q = rw (le-ltb (A.size + q) A.size (omega arith), behind q)

  -- triggers and first records of shifted transitions
  to_shifted : {ds es : List Transition} → TriggersWithin ds es → TriggersWithin ds (map shifted es)
  to_shifted w d m = let (e, n, s) = w d m in (shifted e, map_in shifted n, record { kind = s.kind; first = s.first; last = s.last })

  from_shifted : {ds es : List Transition} → TriggersWithin es ds → TriggersWithin (map shifted es) ds
  from_shifted {ds} {es} w d m =
      let (e, n, q) = map_out shifted es d m in
      let (x, k, s) = w e n in
      (x, k, subst (λ (t : Transition). SameTrigger t x) (sym q) (record { kind = s.kind; first = s.first; last = s.last }))

  un_shifted : {ds es : List Transition} → TriggersWithin ds (map shifted es) → TriggersWithin ds es
  un_shifted {ds} {es} w d m =
      let (x, n, s) = w d m in
      let (e, k, q) = map_out shifted es x n in
      let t : SameTrigger d (shifted e) = rw q at s in
      (e, k, record { kind = t.kind; first = t.first; last = t.last })

  un_shifted_back : {ds es : List Transition} → TriggersWithin (map shifted es) ds → TriggersWithin es ds
  un_shifted_back {ds} {es} w e m = let (x, n, s) = w (shifted e) (map_in shifted m) in (x, n, record { kind = s.kind; first = s.first; last = s.last })

  first_shifted : {es : List Transition} {e : Transition} → FirstOfTrigger es e → FirstOfTrigger (map shifted es) (shifted e)
  first_shifted {es} {e} f = record {
    one = map_in shifted f.one;
    lowest = λ d m s.
        let (x, n, q) = map_out shifted es d m in
        let t : SameTrigger (shifted x) (shifted e) = rw q at s in
        rw q (omega (arith, f.lowest x n (record { kind = t.kind; first = t.first; last = t.last })));
  }

  shifted_first : {es : List Transition} (d : Transition) → FirstOfTrigger (map shifted es) d → (e : Transition) × FirstOfTrigger es e × (d ≡ shifted e)
  shifted_first {es} d f =
      let (e, n, q) = map_out shifted es d f.one in
      let g : FirstOfTrigger (map shifted es) (shifted e) = rw q at f in
      (e, record { one = n; lowest = λ x m s. omega (arith, g.lowest (shifted x) (map_in shifted m) (record { kind = s.kind; first = s.first; last = s.last })) }, q)

  -- a state of A and one of B that agree
  agree : (f : ℕ → ℕ) (p q : ℕ) → p < A.size → Alike A B p q
      → ((d e : Transition) → FirstOfTrigger (leaving A p) d → FirstOfTrigger (leaving B q) e → SameTrigger d e → f d.to ≡ f (A.size + e.to))
      → Bisimilar accept_in out_of f p (A.size + q)
  agree f p q h a j = record {
    accepts = accept_left p h ∙ a.accept ∙ sym (accept_right q);
    there = subst (λ (l : List Transition). TriggersWithin l (out_of (A.size + q))) (sym (out_left p h)) (subst (TriggersWithin (leaving A p)) (sym (out_right q)) (to_shifted a.there));
    back = subst (λ (l : List Transition). TriggersWithin l (out_of p)) (sym (out_right q)) (subst (TriggersWithin (map shifted (leaving B q))) (sym (out_left p h)) (from_shifted a.back));
    joined = λ d e x y s.
        let (c, u, k) = shifted_first e (subst (λ (l : List Transition). FirstOfTrigger l e) (out_right q) y) in
        let t : SameTrigger d (shifted c) = rw k at s in
        rw k (j d c (subst (λ (l : List Transition). FirstOfTrigger l d) (out_left p h) x) u (record { kind = t.kind; first = t.first; last = t.last }));
  }

  -- and what that says of the two
  agreed : (f : ℕ → ℕ) (p q : ℕ) → p < A.size → Bisimilar accept_in out_of f p (A.size + q) → Alike A B p q
  agreed f p q h b = record {
    accept = sym (accept_left p h) ∙ b.accepts ∙ accept_right q;
    there = un_shifted (subst (TriggersWithin (leaving A p)) (out_right q) (subst (λ (l : List Transition). TriggersWithin l (out_of (A.size + q))) (out_left p h) b.there));
    back = un_shifted_back (subst (TriggersWithin (map shifted (leaving B q))) (out_left p h) (subst (λ (l : List Transition). TriggersWithin l (out_of p)) (out_right q) b.back));
  }

  agreed_joined : (f : ℕ → ℕ) (p q : ℕ) → p < A.size → Bisimilar accept_in out_of f p (A.size + q) → (d e : Transition)
      → FirstOfTrigger (leaving A p) d → FirstOfTrigger (leaving B q) e → SameTrigger d e → f d.to ≡ f (A.size + e.to)
  agreed_joined f p q h b d e x y s =
      b.joined d (shifted e) (subst (λ (l : List Transition). FirstOfTrigger l d) (sym (out_left p h)) x) (subst (λ (l : List Transition). FirstOfTrigger l (shifted e)) (sym (out_right q)) (first_shifted y)) (record { kind = s.kind; first = s.first; last = s.last })

  -- a finished walk
  module _ (in-a : InBounds A) (in_b : InBounds B) (w : Pairs) (v : ValidPairs A.size w) (is_n : w.sets.n ≡ A.size + B.size) (started : classes w A.start ≡ classes w (A.size + B.start))
      (reached : (i : ℕ) → i < w.made → ReachedByTriggers A B (one_at w i) (two_at w i))
      (alike : (i : ℕ) → i < w.made → Alike A B (one_at w i) (two_at w i))
      (follows : (i : ℕ) → i < w.made → (d e : Transition) → FirstOfTrigger (leaving A (one_at w i)) d → FirstOfTrigger (leaving B (two_at w i)) e → SameTrigger d e → classes w d.to ≡ classes w (A.size + e.to)) where
    joined_agree : (p q : ℕ) → p < A.size → q < B.size → classes w p ≡ classes w (A.size + q) → Bisimilar accept_in out_of (classes w) p (A.size + q)
    joined_agree p q h k e = generated_into (Bisimilar accept_in out_of (classes w)) (λ x l. bisimilar_self accept_in out_of (classes w) x) (λ x y b. bisimilar_turn accept_in out_of (classes w) b) (λ x y z b c. bisimilar_chain accept_in out_of (classes w) b c)
        (λ i l. agree (classes w) (one_at w i) (two_at w i) (reached_in A B in-a in_b (reached i l)).0 (alike i l) (follows i l)) (v.spanned.only p (A.size + q) (omega (arith, is_n)) (omega (arith, is_n)) e)

    reached_joined : {p q : ℕ} → ReachedByTriggers A B p q → classes w p ≡ classes w (A.size + q)
    reached_joined start = started
    reached_joined (step {p} {q} {d} {e} r f k s) =
        let (h, l) = reached_in A B in-a in_b r in
        agreed_joined (classes w) p q h (joined_agree p q h l (reached_joined r)) d e f k s

    pub walked_alike : (p q : ℕ) → ReachedByTriggers A B p q → Alike A B p q
    walked_alike p q r = let (h, l) = reached_in A B in-a in_b r in agreed (classes w) p q h (joined_agree p q h l (reached_joined r))
