-- The pairs of the graph are those that equal triggers reach; there are no more than states of the one times states of the other. Assumes nothing.
use Rattle.std.proofs.Common.{ℕ, ◌*◌, ◌<◌, Bool, true, false, not, List, [], ◌∷◌, map, ◌↔◌, ⊎_elim, ◌≡◌, refl, sym, ◌∙◌, ap, subst, add_comm, suc-mul, arith, eq-eqb, eqb-true, eqb, length, get_or, length-append}
use mathlib.Core.Bool.{false≢true}
use mathlib.Core.List.{flat_map}
use borrow.Author.Tests.{not-true, not-false}
use lib.ListN.{length-map}
use Rattle.lists.proofs.Index.{Decides}
use Rattle.lists.specs.Lists.{◌∈◌, filter, tabulate}
use Rattle.lists.proofs.Lists.{any_out, filter_in, filter_out, tabulate_at, length_tabulate}
use Rattle.lists.proofs.Every.{flat_in, flat_out}
use Rattle.lists.proofs.Members.{map_in, map_out, at_in, distinct_length}
use Rattle.lists.proofs.Tests.{test, and_both, and_parts}
use Rattle.automata.specs.Automaton.{Transition, Automaton, InBounds, leaving}
use Rattle.search.specs.Search.{SearchResult, over, found, table}
use Rattle.search.proofs.Reached as Search
use Rattle.search.proofs.Queue.{over_exact, table_all}
use Rattle.automata.specs.Pairs.{Pair}
use Rattle.automata.proofs.Pairs.{pair_decides}
use Rattle.equivalence.specs.Triggers.{SameTrigger, FirstOfTrigger, same_trigger, firsts, triggers_within}
use Rattle.equivalence.specs.Equivalent.{ReachedByTriggers, start, step, Alike, alike, trigger_targets_with, trigger_targets, trigger_pairs, all_alike, equivalent}
use Rattle.equivalence.proofs.Triggers.{trigger_test, trigger_passes, none_out, firsts_out, firsts_in, within_test, within_passes}

-- lists of lists
flat_length : {X Y : Type 0} (f : X → List Y) (m : ℕ) (l : List X) → ((x : X) → length (f x) ≡ m) → length (flat_map f l) ≡ length l * m
unfolding flat_map
flat_length f m [] h = omega arith
flat_length f m (x ∷ l) h = length-append (f x) (flat_map f l) ∙ rw (h x, flat_length f m l h) (add_comm m (length l * m) ∙ sym (suc-mul (length l) m))

-- the pairs to which equal triggers lead
targets_out : (ds es : List Transition) (p : Pair) → p ∈ trigger_targets ds es → (d e : Transition) × d ∈ ds × e ∈ es × SameTrigger d e × (p ≡ record { left = d.to; right = e.to })
unfolding trigger_targets trigger_targets_with
targets_out ds es p m =
    let r = flat_out (trigger_targets_with es) p ds m in
    let s = map_out (λ (e : Transition). record { left = r.0.to; right = e.to }) (filter (same_trigger r.0) es) p r.2 in
    let k = filter_out (same_trigger r.0) s.0 es s.1 in
    (r.0, s.0, r.1, k.0, trigger_test r.0 s.0 k.1, s.2)

targets_in : {ds es : List Transition} {d e : Transition} → d ∈ ds → e ∈ es → SameTrigger d e → record { left = d.to; right = e.to } ∈ trigger_targets ds es
unfolding trigger_targets trigger_targets_with
targets_in {ds} {es} {d} {e} m n s = flat_in (trigger_targets_with es) m (map_in (λ (e : Transition). record { left = d.to; right = e.to }) (filter_in (same_trigger d) n (trigger_passes s)))

module _ (A B : Automaton) where
  pub pairs_decides : Decides (trigger_pairs A B).same
  unfolding trigger_pairs
  pairs_decides = pair_decides

  graph_reached : {p : Pair} → Search.Reached (trigger_pairs A B) p → ReachedByTriggers A B p.left p.right
  unfolding trigger_pairs
  graph_reached Search.start = start
  graph_reached {p} (Search.step {x = q} r m) =
      let k = targets_out (firsts (leaving A q.left)) (firsts (leaving B q.right)) p m in
      rw k.5 (step {d = k.0} {e = k.1} (graph_reached r) (firsts_out _ _ k.2) (firsts_out _ _ k.3) k.4)

  reached_graph : {p q : ℕ} → ReachedByTriggers A B p q → Search.Reached (trigger_pairs A B) (record { left = p; right = q })
  unfolding trigger_pairs
  reached_graph start = Search.start
  reached_graph (step {d = d} {e = e} r f g s) = Search.step (reached_graph r) (targets_in {d = d} {e = e} (firsts_in f) (firsts_in g) s)

  -- the test of a pair
  pub alike_test : (p : Pair) → alike A B p ≡ true → Alike A B p.left p.right
  unfolding alike
  alike_test p h =
      let a = and_parts (eqb (get_or A.accept p.left 0) (get_or B.accept p.right 0)) _ h in
      let b = and_parts (triggers_within (leaving A p.left) (leaving B p.right)) _ a.1 in
      record { accept = eqb-true _ _ a.0; there = within_test _ _ b.0; back = within_test _ _ b.1 }

  pub alike_passes : (p : Pair) → Alike A B p.left p.right → alike A B p ≡ true
  unfolding alike
  alike_passes p a = and_both (eqb (get_or A.accept p.left 0) (get_or B.accept p.right 0)) _ (eq-eqb _ _ a.accept) (and_both (triggers_within (leaving A p.left) (leaving B p.right)) _ (within_passes a.there) (within_passes a.back))

  module _ (in-a : InBounds A) (in_b : InBounds B) where
    -- a first record leads to a state
    first_in : (C : Automaton) → InBounds C → (p : ℕ) (d : Transition) → FirstOfTrigger (leaving C p) d → d.to < C.size
    unfolding leaving
    first_in C ok p d f = ok.tos d (filter_out _ d C.transitions f.one).0

    pub reached_in : {p q : ℕ} → ReachedByTriggers A B p q → (p < A.size) × (q < B.size)
    reached_in start = (in-a.starts, in_b.starts)
    reached_in (step {p} {q} {d} {e} r f g s) = (first_in A in-a p d f, first_in B in_b q e g)

    -- all pairs of states
    abbrev numbers : ℕ → List ℕ
    numbers n = tabulate n (λ q. q)

    number_in : (n q : ℕ) → q < n → q ∈ numbers n
    number_in n q h = subst (λ (x : ℕ). x ∈ numbers n) (tabulate_at n (λ q. q) q 0 h) (at_in (numbers n) q 0 (rw (length_tabulate n (λ (q : ℕ). q)) h))

    abbrev row : ℕ → List Pair
    row p = map (λ q. record { left = p; right = q }) (numbers B.size)

    abbrev every : List Pair
    every = flat_map row (numbers A.size)

    every_length : length every ≡ A.size * B.size
    every_length = flat_length row B.size (numbers A.size) (λ p. length-map (numbers B.size) (λ q. record { left = p; right = q }) ∙ length_tabulate B.size (λ q. q)) ∙ ap (λ (n : ℕ). n * B.size) (length_tabulate A.size (λ q. q))

    every_in : (p : Pair) → p.left < A.size → p.right < B.size → p ∈ every
    every_in p h k = flat_in row (number_in A.size p.left h) (map_in (λ (q : ℕ). record { left = p.left; right = q }) (number_in B.size p.right k))

    -- so there is a table
    few : Search.MoreThan (A.size * B.size) (trigger_pairs A B) → ⊥
    few m =
        let l = distinct_length m.0 every m.1.distinct (λ p k. let b = reached_in (graph_reached (m.1.reached p k)) in every_in p b.0 b.1) in
        omega (arith, m.2, every_length)

    -- the table has all reached pairs, and one of them differs or none
    abbrev differ : Pair → Bool
    differ p = not (alike A B p)

    settled : (f : SearchResult Pair) → table (trigger_pairs A B) (A.size * B.size) ≡ f → (T : List Pair) × (f ≡ found T) × Search.AllReached (trigger_pairs A B) T
    settled over e = absurd (few ((over_exact (trigger_pairs A B) pairs_decides (A.size * B.size)).0 e))
    settled (found T) e = (T, refl, table_all (trigger_pairs A B) pairs_decides (A.size * B.size) T e)

    all_true : equivalent A B ≡ true → (p q : ℕ) → ReachedByTriggers A B p q → Alike A B p q
    unfolding equivalent all_alike
    all_true h p q r =
        let (T, e, t) = settled (table (trigger_pairs A B) (A.size * B.size)) refl in
        let x : Pair = record { left = p; right = q } in
        alike_test x (⊎_elim (λ s. s) (λ (s : alike A B x ≡ false). absurd (none_out differ T (rw e at h) x (t.whole x (reached_graph r)) (ap not s))) (test (alike A B x)))

    some_false : equivalent A B ≡ false → (p q : ℕ) × ReachedByTriggers A B p q × (Alike A B p q → ⊥)
    unfolding equivalent all_alike
    some_false h =
        let (T, e, t) = settled (table (trigger_pairs A B) (A.size * B.size)) refl in
        let (p, m, s) = any_out differ T (not-false _ (rw e at h)) in
        (p.left, p.right, graph_reached (t.good.reached p m), λ a. false≢true (sym (not-true (alike A B p) s) ∙ alike_passes p a))

    -- true exactly when no reached pair differs, false exactly when one does
    pub exact : (equivalent A B ≡ true) ↔ ((p q : ℕ) → ReachedByTriggers A B p q → Alike A B p q)
    exact = (all_true, λ h. ⊎_elim (λ t. t) (λ (f : equivalent A B ≡ false). let (p, q, r, n) = some_false f in absurd (n (h p q r))) (test (equivalent A B)))

    pub exact_false : (equivalent A B ≡ false) ↔ ((p q : ℕ) × ReachedByTriggers A B p q × (Alike A B p q → ⊥))
    exact_false = (some_false, λ (p, q, r, n). ⊎_elim (λ (t : equivalent A B ≡ true). absurd (n (all_true t p q r))) (λ f. f) (test (equivalent A B)))
