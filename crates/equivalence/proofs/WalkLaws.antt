-- The queue of pairs: from the starts to the answer. Assumes nothing.
use Rattle.std.proofs.Common.{ℕ, ◌+◌, ◌≤◌, ◌<◌, Bool, true, false, List, ◌≡◌, refl, sym, ap, subst, ◌∙◌, arith, below_more, ltb-true, ltb-false, ltb, length, get_or, ⊎_elim}
use lib.Seq.{sets}
use Rattle.lists.proofs.Members.{ascending_filter}
use Rattle.lists.proofs.Tests.{test}
use Rattle.automata.specs.Automaton.{Transition, Automaton, leaving}
use Rattle.automata.specs.Records.{read_records, write_records}
use Rattle.automata.specs.WellFormed.{WellFormed}
use Rattle.automata.proofs.Records.{read_write}
use Rattle.sheets.specs.inner.Accepted.{Accepted}
use Rattle.sheets.specs.inner.Runs.{starts_of, RunAt}
use Rattle.sheets.specs.Sheet.{state_count, read}
use Rattle.sheets.proofs.Meaning.{read_well}
use Rattle.sheets.proofs.Runs.{run_at, starts_indexed}
use Rattle.automata.proofs.Leaving.{leaves}
use Rattle.dsu.specs.declared.SetsAnswer.{SetsAnswer}
use Rattle.dsu.specs.Sets.{new_of}
use Rattle.pairs.specs.inner.Pairs.{Pairs, classes, one_at, two_at, ValidPairs, NoPairs, PairFits, PairJoined}
use Rattle.pairs.proofs.Laws.{no_pairs, pair_fits}
use Rattle.equivalence.specs.Equivalent.{ReachedByTriggers, start, step, Alike, equivalent}
use Rattle.equivalence.specs.inner.Walking.{Runs, ComparableRuns, RunsAlike, RunsCompared, IndexedSheets}
use Rattle.equivalence.specs.Triggers.{SameTrigger, FirstOfTrigger}
use Rattle.equivalence.proofs.Triggers.{trigger_turn, trigger_chain, first_target_lem}
use Rattle.equivalence.proofs.Exact.{reached_in, exact, exact_false}
use Rattle.equivalence.proofs.Rows.{Sorted, leaders_ascend, leaders_first, leaders_led}
use Rattle.equivalence.proofs.Bisimulation.{walked_alike}

-- the first records of equal triggers of two states lead into one class
abbrev FirstTargetsJoined : List ℕ → List ℕ → Pairs → ℕ → ℕ → Type 0
FirstTargetsJoined a b w p q = (d e : Transition) → FirstOfTrigger (leaving (read a) p) d → FirstOfTrigger (leaving (read b) q) e → SameTrigger d e → classes w d.to ≡ classes w (state_count a + e.to)

-- the pairs w, of which the first `head` are compared
pub record WalkInvariant (a b starts-a starts-b : List ℕ) (n1 head : ℕ) (w : Pairs) : Type 0 where
  pub sheets : IndexedSheets a b starts-a starts-b
  pub is_n1 : n1 ≡ state_count a
  pub valid : ValidPairs n1 w
  pub is_n : w.sets.n ≡ state_count a + state_count b
  pub started : classes w (get_or a 1 0) ≡ classes w (state_count a + get_or b 1 0)
  pub reached : (i : ℕ) → i < w.made → ReachedByTriggers (read a) (read b) (one_at w i) (two_at w i)
  pub so_far : head ≤ w.made
  pub alike : (i : ℕ) → i < head → Alike (read a) (read b) (one_at w i) (two_at w i)
  pub follows : (i : ℕ) → i < head → FirstTargetsJoined a b w (one_at w i) (two_at w i)

-- the transitions of a state are in order
leaving_sorted : (A : Automaton) → WellFormed A → (p : ℕ) → Sorted p (leaving A p)
unfolding leaving
leaving_sorted A v p = record { ascends = ascending_filter _ v.ascends; from = λ e m. (leaves A p e m).1 }

pub walk_indexed : (a b old-a starts-a old-b starts-b : List ℕ) → Accepted a → Accepted b → starts-a ≡ sets old-a 0 (starts_of a)
    → starts-b ≡ sets old-b 0 (starts_of b) → length old-a ≡ 257 → length old-b ≡ 257 → IndexedSheets a b starts-a starts-b
walk_indexed a b old-a starts-a old-b starts-b first second is-a is_b la lb = record {
  first = first;
  second = second;
  index_a = starts_indexed a old-a starts-a is-a (omega (arith, first.few_states));
  index_b = starts_indexed b old-b starts-b is_b (omega (arith, second.few_states));
}

-- the walk begins with the starts
module _ (a b starts-a starts-b : List ℕ) (s : IndexedSheets a b starts-a starts-b) (f : SetsAnswer) (is_f : f ≡ new_of (get_or a 2 0 + get_or b 2 0)) (queue : List ℕ) (long : length queue ≡ 1024) where
  abbrev none : Pairs
  none = record { sets = f.sets; queue = queue; made = 0 }

  is_none : NoPairs (get_or a 2 0 + get_or b 2 0) none
  is_none = no_pairs (get_or a 2 0 + get_or b 2 0) (omega (arith, s.first.few_states, s.second.few_states)) f is_f queue long

  pub walk_fits : PairFits (get_or a 2 0) (get_or a 1 0) (get_or b 1 0) none
  walk_fits = pair_fits (get_or a 2 0) (get_or a 1 0) (get_or b 1 0) none (is_none.valid (get_or a 2 0)) (omega (arith, is_none.is_n, s.first.start)) (omega (arith, is_none.is_n, s.second.start))

  pub walk_begin : (w : Pairs) → PairJoined (get_or a 2 0) (get_or a 1 0) (get_or b 1 0) none w → WalkInvariant a b starts-a starts-b (get_or a 2 0) 0 w
  walk_begin w o = record {
    sheets = s;
    is_n1 = refl;
    valid = o.valid;
    is_n = o.kept.same_n ∙ is_none.is_n;
    started = o.joined;
    reached = λ i h. let (e, x, y) = o.new i (omega arith) h in rw (x, y) start;
    so_far = omega arith;
    alike = λ i h. absurd (omega arith);
    follows = λ i h. absurd (omega arith);
  }

module _ (a b starts-a starts-b : List ℕ) (n1 head : ℕ) (w : Pairs) (g : WalkInvariant a b starts-a starts-b n1 head w) where
  well_a : WellFormed (read a)
  well_a = read_well a g.sheets.first

  well_b : WellFormed (read b)
  well_b = read_well b g.sheets.second

  valid : ValidPairs (state_count a) w
  valid = subst (λ (n : ℕ). ValidPairs n w) g.is_n1 g.valid

  inside : (i : ℕ) → i < w.made → (one_at w i < state_count a) × (two_at w i < state_count b)
  inside i h = reached_in (read a) (read b) well_a.states well_b.states (g.reached i h)

  -- all pairs are compared
  pub walk_ended : w.made ≤ head → true ≡ equivalent (read a) (read b)
  walk_ended h =
      sym ((exact (read a) (read b) well_a.states well_b.states).1
      (walked_alike (read a) (read b) well_a.states well_b.states w valid g.is_n g.started g.reached (λ i l. g.alike i (omega arith)) (λ i l. g.follows i (omega arith))))

  module _ (h : head < w.made) where
    pub walk_in_a : one_at w head < state_count a
    walk_in_a = (inside head h).0

    pub walk_in_b : two_at w head < state_count b
    walk_in_b = (inside head h).1

    pub walk_run_a : RunAt a starts-a (one_at w head)
    walk_run_a = run_at a g.sheets.first starts-a (one_at w head) g.sheets.index_a walk_in_a

    pub walk_run_b : RunAt b starts-b (two_at w head)
    walk_run_b = run_at b g.sheets.second starts-b (two_at w head) g.sheets.index_b walk_in_b

    -- a reached pair that differs
    differs : (Alike (read a) (read b) (one_at w head) (two_at w head) → ⊥) → false ≡ equivalent (read a) (read b)
    differs n = sym ((exact_false (read a) (read b) well_a.states well_b.states).1 (one_at w head, two_at w head, g.reached head h, n))

    pub walk_rejects : (x y : ℕ) → x ≡ get_or (read a).accept (one_at w head) 0 → y ≡ get_or (read b).accept (two_at w head) 0 → (x ≡ y → ⊥) → false ≡ equivalent (read a) (read b)
    walk_rejects x y is_x is_y n = differs (λ s. n (is_x ∙ s.accept ∙ sym is_y))

    module _ (ra rb : List ℕ) (is-a : ra ≡ write_records (leaving (read a) (one_at w head))) (is_b : rb ≡ write_records (leaving (read b) (two_at w head))) where
      abbrev ds : List Transition
      ds = leaving (read a) (one_at w head)

      abbrev es : List Transition
      es = leaving (read b) (two_at w head)

      read_a : read_records ra ≡ ds
      read_a = ap read_records is-a ∙ read_write ds

      read_b : read_records rb ≡ es
      read_b = ap read_records is_b ∙ read_write es

      sorted_a : Sorted (one_at w head) ds
      sorted_a = leaving_sorted (read a) well_a (one_at w head)

      sorted_b : Sorted (two_at w head) es
      sorted_b = leaving_sorted (read b) well_b (two_at w head)

      runs : Runs n1 w.sets.n ds es
      runs = record {
        first = leaders_ascend (one_at w head) ds sorted_a;
        second = leaders_ascend (two_at w head) es sorted_b;
        first_in = λ d m. omega (arith, g.is_n, well_a.states.tos d (leaves (read a) (one_at w head) d m).0);
        second_in = λ e m. omega (arith, g.is_n, g.is_n1, well_b.states.tos e (leaves (read b) (two_at w head) e m).0);
      }

      pub walk_runs : ComparableRuns n1 (read_records ra) (read_records rb) w
      walk_runs = record { valid = g.valid; runs = subst (λ (l : List Transition). Runs n1 w.sets.n l (read_records rb)) (sym read_a) (subst (Runs n1 w.sets.n ds) (sym read_b) runs) }

      of_states : (r : Pairs) (alike : Bool) → RunsCompared n1 (read_records ra) (read_records rb) w r alike → RunsCompared n1 ds es w r alike
      of_states r alike c = subst (λ (l : List Transition). RunsCompared n1 ds l w r alike) read_b (subst (λ (l : List Transition). RunsCompared n1 l (read_records rb) w r alike) read_a c)

      -- a trigger is missing
      pub walk_lacks : (r : Pairs) → RunsCompared n1 (read_records ra) (read_records rb) w r false → false ≡ equivalent (read a) (read b)
      walk_lacks r c = let s = (of_states r false c).answer in differs (λ z. s z.there z.back)

      -- the two are alike
      module _ (r : Pairs) (compared : RunsCompared n1 (read_records ra) (read_records rb) w r true) where
        t : RunsCompared n1 ds es w r true
        t = of_states r true compared

        equal : RunsAlike n1 ds es r true
        equal = t.answer

        same_one : (i : ℕ) → i < w.made → one_at r i ≡ one_at w i
        same_one = t.kept.one

        same_two : (i : ℕ) → i < w.made → two_at r i ≡ two_at w i
        same_two = t.kept.two

        -- the first records of equal triggers of this pair
        here : FirstTargetsJoined a b r (one_at w head) (two_at w head)
        here d e p q s =
            let (k, m, u) = leaders_led ds d p.one in
            let (l, n, v) = leaders_led es e q.one in
            let x : d.to ≡ k.to = first_target_lem p (leaders_first (one_at w head) ds sorted_a k m) u in
            let y : e.to ≡ l.to = first_target_lem q (leaders_first (two_at w head) es sorted_b l n) v in
            ap (classes r) x ∙ equal.2 k l m n (trigger_chain (trigger_turn u) (trigger_chain s v)) ∙ ap (classes r) (omega (arith, g.is_n1))

        -- and of those before
        before : (i : ℕ) → i < head → FirstTargetsJoined a b r (one_at w i) (two_at w i)
        before i l d e p q s =
            t.kept.joins d.to (state_count a + e.to)
            (omega (arith, g.is_n, well_a.states.tos d (leaves (read a) (one_at w i) d p.one).0))
            (omega (arith, g.is_n, well_b.states.tos e (leaves (read b) (two_at w i) e q.one).0)) (g.follows i l d e p q s)

        came : (i : ℕ) → i < r.made → ReachedByTriggers (read a) (read b) (one_at r i) (two_at r i)
        came i l =
            ⊎_elim (λ (u : ltb i w.made ≡ true). let m = ltb-true i w.made u in rw (same_one i m, same_two i m) (g.reached i m))
            (λ (u : ltb i w.made ≡ false).
            let o = t.new_from i (ltb-false i w.made u) l in
            rw (o.to_left, o.to_right) (step (g.reached head h) (leaders_first (one_at w head) ds sorted_a o.left o.in_left) (leaders_first (two_at w head) es sorted_b o.right o.in_right) o.same))
            (test (ltb i w.made))

        pub walk_next : (x y : ℕ) → x ≡ get_or (read a).accept (one_at w head) 0 → y ≡ get_or (read b).accept (two_at w head) 0 → x ≡ y → WalkInvariant a b starts-a starts-b n1 (head + 1) r
        walk_next x y is_x is_y agree = record {
          sheets = g.sheets;
          is_n1 = g.is_n1;
          valid = t.valid;
          is_n = t.kept.same_n ∙ g.is_n;
          started = t.kept.joins (get_or a 1 0) (state_count a + get_or b 1 0) (omega (arith, g.is_n, g.sheets.first.start)) (omega (arith, g.is_n, g.sheets.second.start)) g.started;
          reached = came;
          so_far = omega (arith, t.kept.more);
          alike = below_more (λ (i : ℕ). Alike (read a) (read b) (one_at r i) (two_at r i)) head
              (λ i l. rw (same_one i (omega arith), same_two i (omega arith)) (g.alike i l))
              (rw (same_one head h, same_two head h) (record { accept = sym is_x ∙ agree ∙ is_y; there = equal.0; back = equal.1 }));
          follows = below_more (λ (i : ℕ). FirstTargetsJoined a b r (one_at r i) (two_at r i)) head
              (λ i l. rw (same_one i (omega arith), same_two i (omega arith)) (before i l))
              (rw (same_one head h, same_two head h) here);
        }
