-- A step, member by member: the laws by which `step` is proved.
use Prim.Native.Nat.{ℕ, ◌+◌, ◌*◌, ◌≤◌, ◌<◌}
use mathlib.Core.Bool.{true, ◌&&◌, ◌||◌}
use mathlib.Core.List.{List, [], ◌∷◌}
use mathlib.Core.Logic.{⊎_elim}
use mathlib.Core.Path.{◌≡◌, refl, sym, ◌∙◌, ap, subst}
use native.Mathlib.Omega.{arith}
use borrow.Author.Rules.{rules}
use borrow.Author.Tests.{eq-eqb, eqb-true}
use lib.Dec.{eqb}
use lib.ListN.{length, get_or}
use Rattle.lists.specs.Lists.{any}
use Rattle.lists.proofs.Lists.{any_in, any_out, any_ext, filter_in, filter_out}
use Rattle.lists.proofs.Tests.{test, true_same, and_both, and_parts}
use Rattle.automata.specs.Automaton.{Automaton, InBounds, holds, leaving, ranges_of}
use Rattle.automata.specs.Records.{read_records, write_records}
use Rattle.automata.proofs.Records.{read_write}
use Rattle.ranges.specs.Cuts.{next_cut}
use Rattle.ranges.specs.Missing.{SortedRanges}
use Rattle.ranges.proofs.Sorting.{leaving_sorted}
use Rattle.sets.specs.Sets.{Set, has, pick}
use Rattle.sets.specs.inner.Members.{Canon, members_from, next_member}
use Rattle.sets.specs.inner.BitSet.{set_at}
use Rattle.sets.specs.inner.Words.{clear_at}
use Rattle.sets.proofs.Sets.{has_pick, pick_ext, pick_canon, mem_has, has_mem, has_nil, has_below, wide}
use Rattle.sets.proofs.BitSet.{at_canon, entry_at}
use Rattle.sets.proofs.Stores.{cleared}
use Rattle.sets.proofs.Members.{visit_start, visit_has, visit_next, from_end}
use Rattle.sheets.specs.inner.Runs.{RunAt}
use Rattle.sheets.specs.Sheet.{state_count, read}
use Rattle.sheets.proofs.Meaning.{read_well}
use Rattle.sheets.proofs.Runs.{run_at}
use Rattle.words.specs.Simulation.{closure, outgoing, step}
use Rattle.words.specs.inner.Gather.{takes, reaches, gathered, RowsFor, Tables, with_reached, with_all}
use Rattle.words.proofs.Visiting.{member_here, member_later}
use Rattle.words.proofs.Outgoing.{member_cut_begins, member_cut_next, member_cut_ended}
use Rattle.words.proofs.Gather.{all_none, all_cons, all_one}
use Rattle.words.proofs.Closures.{closure_sound, run_bound}
use Rattle.words.proofs.Rows.{run_rows}

-- a step, member by member
module _ (A : Automaton) (ok : InBounds A) (a : ℕ) where
  step_reaches : (S : Set) (r : ℕ) → r < A.size → has r (step A S a) ≡ any (reaches A a r) S
  unfolding step outgoing reaches takes leaving
  step_reaches S r l =
      has_pick A.size _ r l
      ∙ true_same _ _
      (λ h.
      let x = any_out _ _ h in
      let e = x.0 in
      let k = filter_out _ e A.transitions x.1 in
      let v = and_parts (eqb e.kind 1) _ k.1 in
      let w = and_parts (holds a e) _ x.2 in
      any_in _ (has_mem e.from S v.1) (any_in _ (filter_in _ k.0 (eq-eqb e.from e.from refl)) (and_both _ _ (and_both _ _ v.0 w.0) w.1)))
      (λ h.
      let x = any_out _ S h in
      let p = x.0 in
      let y = any_out _ _ x.2 in
      let e = y.0 in
      let k = filter_out _ e A.transitions y.1 in
      let f : e.from ≡ p = eqb-true _ _ k.1 in
      let v = and_parts (eqb e.kind 1 && holds a e) _ y.2 in
      let w = and_parts (eqb e.kind 1) _ v.0 in
      any_in _ (filter_in _ k.0 (and_both _ _ w.0 (rw f (mem_has x.1)))) (and_both _ _ w.1 v.1))

  pub step_canon : (S : Set) → Canon A.size (step A S a)
  unfolding step
  step_canon S = pick_canon A.size _

  -- nothing outside the states is reached
  reaches_in : (r p : ℕ) → reaches A a r p ≡ true → r < A.size
  unfolding reaches leaving
  reaches_in r p h =
      let x = any_out _ _ h in
      let e = x.0 in
      let t = ok.tos e (filter_out _ e A.transitions x.1).0 in
      run_bound A ok t (closure_sound A ok e.to r t (and_parts (takes a e) _ x.2).1)

  step_wide : (S : Set) → A.size ≤ 256 → pick 256 (λ r. any (reaches A a r) S) ≡ step A S a
  step_wide S l =
      wide 0 A.size 256 _ l
      (λ r g.
      ⊎_elim (λ (t : any (reaches A a r) S ≡ true). let x = any_out _ S t in let b = reaches_in r x.0 x.2 in absurd (omega arith)) (λ t. t)
      (test (any (reaches A a r) S)))
      ∙ pick_ext 0 A.size _ _ (λ r g. sym (step_reaches S r (omega arith)))
      ∙ step_canon S

module _ (s starts c : List ℕ) (t : Tables s starts c) (a : ℕ) where
  row : (p : ℕ) → p < state_count s → set_at c (4 * p) ≡ closure (read s) p
  unfolding closure
  row p l = sym (entry_at c (state_count s) p l) ∙ ap (λ R. get_or R p []) t.closed

  ok : InBounds (read s)
  ok = (read_well s t.accepted).states

  -- the states that the run of q names have rows in the table
  pub step_rows : (q : ℕ) (run : List ℕ) → run ≡ write_records (leaving (read s) q) → RowsFor (length c) (read_records run)
  step_rows = run_rows s t.accepted (length c) t.long

  -- and its ranges are sorted
  pub step_sorted : (q : ℕ) (run : List ℕ) → run ≡ write_records (leaving (read s) q) → SortedRanges (ranges_of (read_records run))
  step_sorted q run e = subst (λ es. SortedRanges (ranges_of es)) (sym (ap read_records e ∙ read_write (leaving (read s) q))) (leaving_sorted (read s) q (read_well s t.accepted))

  -- gathering the run of q adds what q reaches
  gathered_reached : (q : ℕ) (old : List ℕ) → gathered old c a (leaving (read s) q) ≡ with_all (set_at old 0) (reaches (read s) a) (q ∷ [])
  unfolding gathered reaches with_all leaving
  gathered_reached q old =
      pick_ext 0 256 _ _
      (λ r l. ap (λ b. has r (set_at old 0) || b) (any_ext _ _ (leaving (read s) q) (λ d i. ap (λ T. takes a d && has r T) (row d.to (ok.tos d (filter_out _ d (read s).transitions i).0)))))
      ∙ sym (all_one (reaches (read s) a) (set_at old 0) q)

  step_gather : (q : ℕ) (old u run : List ℕ) (R : Set) → run ≡ write_records (leaving (read s) q) → set_at u 0 ≡ gathered old c a (read_records run)
      → with_reached (read s) a u R ≡ with_reached (read s) a old (q ∷ R)
  unfolding with_reached
  step_gather q old u run R e h =
      ap (λ S. with_all S (reaches (read s) a) R) (h ∙ ap (gathered old c a) (ap read_records e ∙ read_write (leaving (read s) q)) ∙ gathered_reached q old)
      ∙ sym (all_cons (reaches (read s) a) (set_at old 0) q R)

  module _ (cur : List ℕ) where
    -- the run of a member
    pub step_run : (q : ℕ) → Canon (state_count s) (set_at cur 0) → q ≡ next_member (set_at cur 0) q → q < 256 → RunAt s starts q
    step_run q n h l = run_at s t.accepted starts q t.indexed (has_below (state_count s) (set_at cur 0) n q (visit_has (set_at cur 0) (at_canon cur 0) q h l))

    -- the next cut, with what was found among the members before q
    module _ (top : ℕ) where
      pub cut_begins : (q : ℕ) → q ≡ next_member (set_at cur 0) 0 → next_cut a top (outgoing (read s) (members_from q (set_at cur 0))) ≡ next_cut a top (outgoing (read s) (set_at cur 0))
      cut_begins q h = member_cut_begins (read s) (read_well s t.accepted) (set_at cur 0) (at_canon cur 0) a top q h

      module _ (q found : ℕ) (i : next_cut a found (outgoing (read s) (members_from q (set_at cur 0))) ≡ next_cut a top (outgoing (read s) (set_at cur 0))) where
        pub cut_next : q ≡ next_member (set_at cur 0) q → q < 256 → (x next : ℕ) (run : List ℕ) → x ≡ next_member (set_at cur 0) (q + 1)
            → run ≡ write_records (leaving (read s) q) → next ≡ next_cut a found (ranges_of (read_records run))
            → next_cut a next (outgoing (read s) (members_from x (set_at cur 0))) ≡ next_cut a top (outgoing (read s) (set_at cur 0))
        cut_next h l x next run k r e = member_cut_next (read s) (read_well s t.accepted) (set_at cur 0) (at_canon cur 0) a top q x found next run i h l k r e

        pub cut_ended : 256 ≤ q → found ≡ next_cut a top (outgoing (read s) (set_at cur 0))
        cut_ended l = member_cut_ended (read s) (read_well s t.accepted) (set_at cur 0) (at_canon cur 0) a top q found i l

    pub step_begins : (u v : List ℕ) (q : ℕ) → u ≡ clear_at v 0 → 4 ≤ length v → q ≡ next_member (set_at cur 0) 0 → with_reached (read s) a u (members_from q (set_at cur 0)) ≡ step (read s) (set_at cur 0) a
    unfolding with_reached with_all
    step_begins u v q e l h =
        ap (λ R. with_reached (read s) a u R) (visit_start (set_at cur 0) (at_canon cur 0) q h)
        ∙ pick_ext 0 256 _ _ (λ r g. ap (λ b. b || any (reaches (read s) a r) (set_at cur 0)) (ap (has r) (ap (λ x. set_at x 0) e ∙ cleared v 0 l) ∙ has_nil r))
        ∙ step_wide (read s) ok a (set_at cur 0) t.accepted.few_states

    pub step_next : (q x : ℕ) (old u run : List ℕ) → with_reached (read s) a old (members_from q (set_at cur 0)) ≡ step (read s) (set_at cur 0) a → q ≡ next_member (set_at cur 0) q → q < 256
        → x ≡ next_member (set_at cur 0) (q + 1) → run ≡ write_records (leaving (read s) q) → set_at u 0 ≡ gathered old c a (read_records run)
        → with_reached (read s) a u (members_from x (set_at cur 0)) ≡ step (read s) (set_at cur 0) a
    step_next q x old u run i h l k e g =
        step_gather q old u run (members_from x (set_at cur 0)) e g ∙ ap (with_reached (read s) a old) (sym (visit_next (set_at cur 0) (at_canon cur 0) q x h l k)) ∙ i

    pub step_ended : (q : ℕ) (u : List ℕ) → with_reached (read s) a u (members_from q (set_at cur 0)) ≡ step (read s) (set_at cur 0) a → 256 ≤ q → set_at u 0 ≡ step (read s) (set_at cur 0) a
    unfolding with_reached
    step_ended q u i l =
        sym (all_none (reaches (read s) a) (set_at u 0) (at_canon u 0)) ∙ ap (with_reached (read s) a u) (sym (from_end (set_at cur 0) (at_canon cur 0) q l)) ∙ i

pub ruleset step_laws = (step_run, step_rows, step_sorted, step_begins, step_next, step_ended, cut_begins, cut_next, cut_ended, member_here, member_later, rules)
