-- The words of totalized and of complemented automata, against runs.
use Prim.Native.Nat.{ℕ, ◌≤◌, ◌<◌}
use mathlib.Core.Bool.{Bool, true, false, cond, false≢true}
use mathlib.Core.List.{List, ◌∷◌}
use mathlib.Core.Logic.{◌⊎◌, inl, inr, ⊎_elim, ◌↔◌}
use mathlib.Core.Path.{◌≡◌, refl, sym, ◌∙◌, ap, subst}
use native.Mathlib.Nat.{eq-or-lt_of_le}
use native.Mathlib.Omega.{arith}
use borrow.Author.Tests.{eqb-false, ltb-true, ltb-false, ne_eqb}
use lib.Dec.{ltb, eqb}
use lib.ListN.{length, get_or, get_or-eq_default}
use Rattle.lists.specs.Lists.{◌∈◌}
use Rattle.lists.proofs.Tests.{test}
use Rattle.automata.specs.Automaton.{Transition, Automaton, Run, stay, skip, read, Accepts, Word, none, more, holds, leaving, EpsilonFree}
use Rattle.automata.specs.WellFormed.{WellFormed}
use Rattle.automata.proofs.Leaving.{leaving_in, leaving_range}
use Rattle.nondeterminism.specs.Nondeterminism.{holes_of, is_nfa, CompleteAutomaton}
use Rattle.nondeterminism.proofs.Deterministic.{deterministic_complete}
use Rattle.nondeterminism.proofs.Holes.{state_holes, held_or_free}
use Rattle.ranges.specs.Span.{Span, OverlapFree}
use Rattle.ranges.proofs.Functional.{Functional, overlap_functional}
use Rattle.ranges.proofs.Held.{held, holds_ends}
use Rattle.totality.specs.Totality.{hole_to, loop_on, totalized, other_word, flipped, complemented}
use Rattle.totality.proofs.Totalized.{TotalizedTransition, kept, hole, loop, origin, kept_in, hole_in, loop_in, totalized_well, accept_same, accept_zero, other_at}

-- a run goes through in an automaton that has all the transitions
run_more : {A B : Automaton} → ((e : Transition) → e ∈ A.transitions → e ∈ B.transitions) → {p q : ℕ} {w : List ℕ} → Run A p w q → Run B p w q
run_more f stay = stay
run_more f (skip e m c k r) = skip e (f e m) c k (run_more f r)
run_more f (read e m c k l u r) = read e (f e m) c k l u (run_more f r)

-- an accepting state is one of the accept words
accepting : (l : List ℕ) (q : ℕ) → 0 < get_or l q 0 → q < length l
accepting l q h = ⊎_elim (λ t. ltb-true q (length l) t) (λ t. absurd (omega (arith, get_or-eq_default l 0 {n = q} (ltb-false q (length l) t)))) (test (ltb q (length l)))

-- a run stays among the states
run_in : {A : Automaton} → WellFormed A → {p q : ℕ} {w : List ℕ} → Run A p w q → p < A.size → q < A.size
run_in v stay h = h
run_in v (skip e m c k r) h = run_in v r (v.states.tos e m)
run_in v (read e m c k l u r) h = run_in v r (v.states.tos e m)

module _ (lower upper : ℕ) (A : Automaton) (v : WellFormed A) where
  sink_to : (e : Transition) → TotalizedTransition lower upper A e → e.from ≡ A.size → e.to ≡ A.size
  sink_to e (kept m) c = absurd (omega (arith, v.states.froms e m))
  sink_to e (hole q h l m d) c = rw d
  sink_to e (loop d) c = rw d

  -- no run leaves the sink
  sink_stays : {p q : ℕ} {w : List ℕ} → Run (totalized lower upper A) p w q → p ≡ A.size → q ≡ A.size
  sink_stays stay h = h
  sink_stays (skip e m c k r) h = sink_stays r (sink_to e (origin lower upper A v e m) (c ∙ h))
  sink_stays (read e m c k l u r) h = sink_stays r (sink_to e (origin lower upper A v e m) (c ∙ h))

  back_skip : {p q : ℕ} {w : List ℕ} (e : Transition) → TotalizedTransition lower upper A e → e.from ≡ p → e.kind ≡ 0
      → (e.to < A.size → Run A e.to w q ⊎ (q ≡ A.size)) → Run A p w q ⊎ (q ≡ A.size)
  back_skip e (kept m) c k ih = ⊎_elim (λ s. inl (skip e m c k s)) inr (ih (v.states.tos e m))
  back_skip e (hole q h l m d) c k ih = absurd (omega (arith, sym k ∙ ap (λ (t : Transition). t.kind) d))
  back_skip e (loop d) c k ih = absurd (omega (arith, sym k ∙ ap (λ (t : Transition). t.kind) d))

  back_read : {p q a : ℕ} {w : List ℕ} (e : Transition) → TotalizedTransition lower upper A e → p < A.size → e.from ≡ p → e.kind ≡ 1 → e.first ≤ a → a ≤ e.last
      → (e.to < A.size → Run A e.to w q ⊎ (q ≡ A.size)) → (e.to ≡ A.size → q ≡ A.size) → Run A p (a ∷ w) q ⊎ (q ≡ A.size)
  back_read e (kept m) h c k l u ih s = ⊎_elim (λ r. inl (read e m c k l u r)) inr (ih (v.states.tos e m))
  back_read e (hole q g n m d) h c k l u ih s = inr (s (ap (λ (t : Transition). t.to) d))
  back_read e (loop d) h c k l u ih s = inr (s (ap (λ (t : Transition). t.to) d))

  -- a run from a state that was there ends in the sink, or was a run before
  run_back : {p q : ℕ} {w : List ℕ} → Run (totalized lower upper A) p w q → p < A.size → Run A p w q ⊎ (q ≡ A.size)
  run_back stay h = inl stay
  run_back (skip e m c k r) h = back_skip e (origin lower upper A v e m) c k (run_back r)
  run_back (read e m c k l u r) h = back_read e (origin lower upper A v e m) h c k l u (run_back r) (sink_stays r)

  -- totalizing keeps the words
  pub words_kept : (w : List ℕ) → Accepts (totalized lower upper A) w ↔ Accepts A w
  unfolding totalized
  words_kept w = (
    λ (q, r, a).
        ⊎_elim
        (λ (s : Run A A.start w q).
        let l : q < length A.accept = rw v.accepts (run_in v s v.states.starts) in
        (q, s, rw (accept_same A.accept q l) at a))
        (λ (e : q ≡ A.size). absurd (omega (arith, a, accept_zero A.accept q (omega (arith, v.accepts)))))
        (run_back r v.states.starts),
    λ (q, r, a). (q, run_more (λ e m. kept_in lower upper A v m) r, rw (accept_same A.accept q (accepting A.accept q a)) a),
  )

run_unique : {B : Automaton} → Functional B → {p q q' : ℕ} {w : List ℕ} → Run B p w q → Run B p w q' → q ≡ q'
run_unique f stay stay = refl
run_unique f stay (skip e m c k r) = absurd (omega (arith, f.ranges e m))
run_unique f (skip e m c k r) s = absurd (omega (arith, f.ranges e m))
run_unique f (read e m c k l u r) (skip d n b j s) = absurd (omega (arith, f.ranges d n))
run_unique {B} f {q' = q'} (read {a = a} {w = w} e m c k l u r) (read d n b j g h s) =
    let t : d.to ≡ e.to = f.single d e a n m (b ∙ sym c) (held a d g h) (held a e l u) in
    run_unique f r (subst (λ y. Run B y w q') t s)

run_exists : {lower upper : ℕ} {B : Automaton} → WellFormed B → CompleteAutomaton lower upper B → {w : List ℕ} → Word lower upper w → (p : ℕ) → p < B.size → (q : ℕ) × Run B p w q × (q < B.size)
run_exists v c none p h = (p, stay, h)
run_exists v c (more {a} l u i) p h =
    let (e, m, f, k, x, y) = c.next p a h l u in
    let (q, r, g) = run_exists v c i e.to (v.states.tos e m) in
    (q, read e m f k x y r, g)

-- flipping acceptance gives the other words, where each has one run
flipped_words : (lower upper : ℕ) (B : Automaton) → WellFormed B → CompleteAutomaton lower upper B → Functional B → (w : List ℕ) → Word lower upper w → Accepts (flipped B) w ↔ (Accepts B w → ⊥)
unfolding flipped
flipped_words lower upper B v c f w i = (
  λ (q, r, a) (q', r', a').
      let e : q ≡ q' = run_unique f (run_more (λ e m. m) r) r' in
      let b : 0 < get_or B.accept q 0 = rw e a' in
      let z : other_word (get_or B.accept q 0) ≡ 0 = rw (ne_eqb (get_or B.accept q 0) 0 (λ z. omega arith)) in
      omega (arith, a, other_at B.accept q (accepting B.accept q b)),
  λ n.
      let (q, r, h) = run_exists v c i B.start v.states.starts in
      let l : q < length B.accept = rw v.accepts h in
      ⊎_elim
      (λ (t : eqb (get_or B.accept q 0) 0 ≡ true).
      let o : other_word (get_or B.accept q 0) ≡ 1 = rw t in
      (q, run_more (λ e m. m) r, omega (arith, other_at B.accept q l)))
      (λ (t : eqb (get_or B.accept q 0) 0 ≡ false). absurd (n (q, r, omega (arith, eqb-false (get_or B.accept q 0) 0 t))))
      (test (eqb (get_or B.accept q 0) 0)),
)

module _ (lower upper : ℕ) (A : Automaton) (v : WellFormed A) where
  -- a symbol of a hole is held by no range of the state
  free_symbol : (q : ℕ) (h : Span) → h ∈ holes_of lower upper (leaving A q) → (x : ℕ) → h.first ≤ x → x ≤ h.last → (e : Transition)
      → e ∈ A.transitions → e.from ≡ q → e.kind ≡ 1 → holds x e ≡ false
  free_symbol q h m x l u e n c k = (((state_holes A v q lower upper).exact x).0 (h, m, record { above = l; below = u })).2 e (leaving_range A q e (leaving_in A q e n c) k)

  pub total_complete : CompleteAutomaton lower upper (totalized lower upper A)
  unfolding totalized
  total_complete = record { next = λ p x h l u. ⊎_elim (λ (e : p ≡ A.size). (loop_on lower upper A.size, loop_in lower upper A v, sym e, refl, l, u)) (λ g. inside p x g l u) (eq-or-lt_of_le {n = p} {m = A.size} (omega arith)) }
    where
      inside : (p x : ℕ) → p < A.size → lower ≤ x → x ≤ upper → (e : Transition) × e ∈ (totalized lower upper A).transitions × (e.from ≡ p) × (e.kind ≡ 1) × (e.first ≤ x) × (x ≤ e.last)
      inside p x g l u =
          ⊎_elim (λ (e, m, c, k, f, g). (e, kept_in lower upper A v m, c, k, f, g)) (λ (h, m, i). (hole_to A.size p h, hole_in lower upper A v p h g m, refl, refl, i.above, i.below))
          (held_or_free A v p lower upper x l u)

  module _ (ranges : EpsilonFree A) (apart : OverlapFree A) where
    total_functional : Functional (totalized lower upper A)
    total_functional = record { ranges = λ e m. one e (origin lower upper A v e m); single = λ d e x m n c h k. same d e x (origin lower upper A v d m) (origin lower upper A v e n) c h k }
      where
        one : (e : Transition) → TotalizedTransition lower upper A e → e.kind ≡ 1
        one e (kept m) = ranges e m
        one e (hole q h l m c) = rw c
        one e (loop c) = rw c

        mixed : (d e : Transition) (x : ℕ) → d ∈ A.transitions → TotalizedTransition lower upper A e
            → ((q : ℕ) (h : Span) → h ∈ holes_of lower upper (leaving A q) → e ≡ hole_to A.size q h → d.from ≡ e.from → holds x d ≡ true → holds x e ≡ true → ⊥)
            → d.from ≡ e.from → holds x d ≡ true → holds x e ≡ true → d.to ≡ e.to
        mixed d e x m (kept n) f c h k = (overlap_functional A v ranges apart).single d e x m n c h k
        mixed d e x m (hole q g l n b) f c h k = absurd (f q g n b c h k)
        mixed d e x m (loop b) f c h k = absurd (omega (arith, v.states.froms d m, c ∙ ap (λ (t : Transition). t.from) b))

        clash : (d e : Transition) (x : ℕ) → d ∈ A.transitions → (q : ℕ) (h : Span) → h ∈ holes_of lower upper (leaving A q)
            → e ≡ hole_to A.size q h → d.from ≡ e.from → holds x d ≡ true → holds x e ≡ true → ⊥
        clash d e x m q h n b c i k =
            let j = holds_ends x (hole_to A.size q h) (rw b at k) in
            false≢true (sym (free_symbol q h n x j.0 j.1 d m (c ∙ ap (λ (t : Transition). t.from) b) (ranges d m)) ∙ i)

        same : (d e : Transition) (x : ℕ) → TotalizedTransition lower upper A d → TotalizedTransition lower upper A e → d.from ≡ e.from → holds x d ≡ true → holds x e ≡ true → d.to ≡ e.to
        same d e x (kept m) o c h k = mixed d e x m o (clash d e x m) c h k
        same d e x (hole q g l n b) (kept m) c h k = sym (mixed e d x m (hole q g l n b) (clash e d x m) (sym c) k h)
        same d e x (hole q g l n b) (hole p f i j a) c h k = rw (b, a)
        same d e x (hole q g l n b) (loop a) c h k = rw (b, a)
        same d e x (loop b) (kept m) c h k = sym (mixed e d x m (loop b) (clash e d x m) (sym c) k h)
        same d e x (loop b) (hole p f i j a) c h k = rw (b, a)
        same d e x (loop b) (loop a) c h k = rw (b, a)

  -- where no epsilon and no overlap stood, the complement's words are the others
  pub other_words : lower ≤ upper → EpsilonFree A → OverlapFree A → (w : List ℕ) → Word lower upper w → Accepts (complemented lower upper A) w ↔ (Accepts A w → ⊥)
  unfolding complemented
  other_words c ranges apart w i = go (is_nfa lower upper A) refl
    where
      go : (b : Bool) → is_nfa lower upper A ≡ b → Accepts (flipped (cond b (totalized lower upper A) A)) w ↔ (Accepts A w → ⊥)
      go true e =
          let f = flipped_words lower upper (totalized lower upper A) (totalized_well lower upper A v c) total_complete (total_functional ranges apart) w i in
          (λ a n. f.0 a ((words_kept lower upper A v w).1 n), λ n. f.1 (λ a. n ((words_kept lower upper A v w).0 a)))
      go false e = flipped_words lower upper A v (deterministic_complete lower upper A v e) (overlap_functional A v ranges apart) w i
