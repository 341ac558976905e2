-- Runs of the result follow the simulation: a word's run ends in the state that stands for the set at the word's end.
use Rattle.std.proofs.Common.{◌≡◌, ℕ, zero, suc, ◌<◌, ◌≤◌, true, false, eqb, ltb, leb, ◌↔◌, List, [], length, get_or, sym, refl, ap, ◌∙◌, subst, ⊎_elim, eq-or-lt_of_le, arith, ltb-false, ltb-true, eqb-true, leb-true}
use mathlib.Core.List.Memᴰ
use lib.ListN.{get_or-eq_default}
use Rattle.lists.specs.Lists.{◌∈◌}
use Rattle.lists.proofs.Lists.{filter_out}
use Rattle.lists.proofs.Tests.{test, and_parts}
use Rattle.automata.specs.Automaton.{Transition, Automaton, Run, stay, skip, read, Accepts, Word, none, more, InBounds, holds, carries}
use Rattle.lists.specs.Index.{index, same}
use Rattle.lists.proofs.Index.{index_le, index_in, index_place, same_decides}
use Rattle.sets.specs.Sets.{Set, has}
use Rattle.sets.proofs.Tables.{at_index}
use Rattle.words.specs.Simulation.{closure, outgoing, step, simulate, start_set, kind_of, kind}
use Rattle.words.proofs.Closures.{join, closure_sound, closure_complete, run_bound}
use Rattle.words.proofs.Simulation.{simulate_sound, simulate_complete, closure_shut, accepts_kind}
use Rattle.words.proofs.Kind.{kind_of_some, kind_of_least}
use Rattle.search.specs.Search.{found}
use Rattle.lists.proofs.Members.{at_in}
use Rattle.ranges.proofs.Spans.{cut_stretch, cut_alike}
use Rattle.determinize.specs.Determinize.{set_table, sets_and_sink, set_transition, subset_automaton}
use Rattle.determinize.proofs.Steps.{step_alike}
use Rattle.determinize.proofs.Finished.{table_start, table_closed, table_all}
use Rattle.determinize.proofs.Result.{states_at, length_states, origin, accept_built, one_built}

zero_both : (a b : ℕ) → a ≤ 0 → (0 < b → 0 < a) → a ≡ b
zero_both a zero h f = omega arith
zero_both a (suc b) h f = absurd (let g = f (omega arith) in omega arith)

module _ (lower upper : ℕ) (A : Automaton) (ok : InBounds A) (T : List Set) (e : set_table lower upper A ≡ found T) where
  abbrev D : Automaton
  D = subset_automaton lower upper A T

  -- what a transition of the result says of the sets
  pub record TransitionFacts (d : Transition) : Type 0 where
    pub is_range : d.kind ≡ 1
    pub from_lt : d.from < D.size
    pub to_lt : d.to < D.size
    pub above : lower ≤ d.first
    pub full : d.first ≤ d.last
    pub below : d.last ≤ upper
    pub to_at : (x : ℕ) → d.first ≤ x → x ≤ d.last → get_or T d.to [] ≡ step A (get_or T d.from []) x

  pub transition_facts : (d : Transition) → d ∈ D.transitions → TransitionFacts d
  unfolding subset_automaton set_transition
  transition_facts d m =
      let r = origin lower upper A T 0 (sets_and_sink T) d m in
      let s = r.span in
      let n : r.place < suc (length T) = rw (length_states T) at r.near in
      let f : d.from ≡ r.place = ap (λ x. x.from) r.is ∙ omega arith in
      let S = get_or T d.from [] in
      let p : get_or (sets_and_sink T) r.place [] ≡ S = states_at T r.place ∙ ap (λ k. get_or T k []) (sym f) in
      let i = rw p at r.in in
      let v = cut_stretch lower upper (outgoing A S) s i in
      let t : d.to ≡ index same (step A S s.first) T = ap (λ x. x.to) r.is ∙ ap (λ R. index same (step A R s.first) T) p in
      let z = index_le same (step A S s.first) T in
      let a : d.first ≡ s.first = ap (λ x. x.first) r.is in
      let b : d.last ≡ s.last = ap (λ x. x.last) r.is in
      record {
        is_range = ap (λ x. x.kind) r.is;
        from_lt = omega arith;
        to_lt = omega arith;
        above = omega (arith, v.above);
        full = omega (arith, v.full);
        below = omega (arith, v.below);
        to_at = λ x l u.
            ap (λ k. get_or T k []) t ∙ at_index T _ (table_closed lower upper A ok T e d.from s.first v.above (omega (arith, v.full, v.below)))
            ∙ sym (step_alike A S x s.first (cut_alike lower upper (outgoing A S) s i x (omega arith) (omega arith)));
      }

  pub built_bounds : InBounds D
  built_bounds = record { starts = unfold subset_automaton in omega arith; froms = λ d m. (transition_facts d m).from_lt; tos = λ d m. (transition_facts d m).to_lt }

  run_set : {j k : ℕ} {w : List ℕ} → Run D j w k → get_or T k [] ≡ simulate A (get_or T j []) w
  unfolding simulate
  run_set stay = refl
  run_set (skip d m f c r) = let z = (transition_facts d m).is_range in absurd (omega arith)
  run_set {j} {k} (read {a} {w} d m f c l u r) =
      run_set r ∙ ap (λ S. simulate A S w) ((transition_facts d m).to_at a l u ∙ ap (λ i. step A (get_or T i []) a) f)

  run_on : {w : List ℕ} → Word lower upper w → (j : ℕ) → j < D.size → (k : ℕ) × Run D j w k
  unfolding carries holds
  run_on none j h = (j, stay)
  run_on (more {a} l u r) j h =
      let o = one_built lower upper A T j a h l u in
      let d = o.0 in
      let m = filter_out (carries j a) d D.transitions (rw o.1 (Memᴰ.head refl)) in
      let c = and_parts (eqb d.from j) _ m.1 in
      let b = and_parts (eqb d.kind 1) _ c.1 in
      let i = and_parts (leb d.first a) _ b.1 in
      let t = run_on r d.to (transition_facts d m.0).to_lt in
      (t.0, read d m.0 (eqb-true _ _ c.0) (eqb-true _ _ b.0) (leb-true _ _ i.0) (leb-true _ _ i.1) t.1)

  -- a run from the start ends at the set of its word
  pub run_end : {k : ℕ} {w : List ℕ} → Run D D.start w k → get_or T k [] ≡ simulate A (start_set A) w
  unfolding subset_automaton
  run_end {w = w} r = run_set r ∙ ap (λ S. simulate A S w) (table_start lower upper A ok T e)

  end_kind : {k : ℕ} {w : List ℕ} → Run D D.start w k → get_or D.accept k 0 ≡ kind A w
  unfolding kind
  end_kind {k} r = accept_built lower upper A T k ∙ ap (kind_of A) (run_end r)

  pub words_kept : (w : List ℕ) → Word lower upper w → Accepts D w ↔ Accepts A w
  words_kept w v = (
    λ a. (accepts_kind A ok w).1 (rw (end_kind a.1) at a.2),
    λ a.
        let r = run_on v D.start built_bounds.starts in
        (r.0, r.1, rw (end_kind r.1) ((accepts_kind A ok w).0 a)),
  )

  pub kind_kept : (w : List ℕ) → Word lower upper w → kind D w ≡ kind A w
  unfolding kind start_set
  kind_kept w v =
      let S = simulate D (closure D D.start) w in
      let s = built_bounds.starts in
      let r = run_on v D.start s in
      let m : has r.0 S ≡ true = simulate_complete D built_bounds r.1 _ (closure_shut D built_bounds D.start s) (closure_complete D built_bounds s stay) in
      ⊎_elim
      (λ (t : ltb 0 (kind_of D S) ≡ true).
      let h = kind_of_some D S (ltb-true 0 _ t) in
      let c = simulate_sound D built_bounds _ w h.0 h.1 in
      sym h.2 ∙ end_kind (join (closure_sound D built_bounds D.start c.0 s c.1) c.2))
      (λ (t : ltb 0 (kind_of D S) ≡ false).
      let z : kind_of D S ≤ 0 = ltb-false 0 _ t in
      let y : 0 < get_or D.accept r.0 0 → 0 < kind_of D S = λ p. (kind_of_least D S r.0 m p).0 in
      zero_both _ (get_or D.accept r.0 0) z y ∙ end_kind r.1)
      (test (ltb 0 (kind_of D S)))

  -- the empty set is not in the table
  pub sink_index : index same [] T ≡ length T
  sink_index =
      ⊎_elim (λ (q : index same [] T ≡ length T). q) (λ (l : index same [] T < length T). absurd ((table_all lower upper A ok T e).good.nonempty [] (index_in same same_decides [] T l) refl))
      (eq-or-lt_of_le (index_le same [] T))

  -- a state is the place of its set, the sink that of the empty set
  state_index : (j : ℕ) → j < D.size → index same (get_or T j []) T ≡ j
  unfolding subset_automaton
  state_index j h =
      ⊎_elim (λ t. index_place same same_decides [] (table_all lower upper A ok T e).good.distinct j (ltb-true j (length T) t))
      (λ t.
      let l : length T ≤ j = ltb-false j (length T) t in
      let z : length T ≡ j = omega arith in
      ap (λ S. index same S T) (get_or-eq_default T [] l) ∙ sink_index ∙ z)
      (test (ltb j (length T)))

  -- a word leads to a state exactly where it leads to the state's set
  pub run_exact : (k : ℕ) → k < D.size → (v : List ℕ) → Word lower upper v → Run D D.start v k ↔ (simulate A (start_set A) v ≡ get_or T k [])
  run_exact k h v x = (
    λ r. sym (run_end r),
    λ q.
        let (i, r) = run_on x D.start built_bounds.starts in
        let z : i ≡ k = sym (state_index i (run_bound D built_bounds built_bounds.starts r)) ∙ ap (λ S. index same S T) (run_end r ∙ q) ∙ state_index k h in
        subst (λ i. Run D D.start v i) z r,
  )

  -- a word leads to every state but the sink
  pub state_reached : (j : ℕ) → j < length T → (w : List ℕ) × Word lower upper w × Run D D.start w j
  state_reached j h =
      let (w, v, q) = (table_all lower upper A ok T e).good.reached _ (at_in T j [] h) in
      (w, v, (run_exact j (unfold subset_automaton in omega arith) w v).1 q)
