-- Where the transitions lead: those of the parts to the sets of the parts, those of the holes to the sink, and the sink's loop to itself.
use Rattle.std.proofs.Common.{◌≡◌, ℕ, suc, ◌+◌, ◌-◌, ◌<◌, ◌≤◌, true, false, not, eqb, ◌⊎◌, ◌↔◌, List, [], ◌∷◌, map, length, get_or, sym, ap, ◌∙◌, subst, inl, inr, ⊎_elim, arith}
use borrow.Author.Tests.{not-true}
use lib.ListN.{get_or-eq_default}
use Rattle.lists.specs.Lists.{◌∈◌, any}
use Rattle.lists.proofs.Lists.{filter_in, filter_out}
use Rattle.lists.proofs.Tests.{test}
use Rattle.automata.specs.Automaton.{Transition, Automaton, Run, Word, InBounds, holds, leaving}
use Rattle.lists.specs.Index.{index, same}
use Rattle.lists.proofs.Index.{index_lt, same_decides}
use Rattle.sets.specs.Sets.{Set}
use Rattle.sets.proofs.Tables.{at_index}
use Rattle.words.specs.Simulation.{outgoing, step, simulate, start_set, kind_of}
use Rattle.words.proofs.Closures.{run_bound}
use Rattle.ranges.specs.Span.{Span}
use Rattle.ranges.specs.Cuts.{next_cut, cut_all}
use Rattle.ranges.specs.Missing.{covered, missing}
use Rattle.ranges.proofs.Cuts.{cut_step, cut_end}
use Rattle.search.specs.Search.{found}
use Rattle.lists.proofs.Members.{map_in}
use Rattle.ranges.proofs.Spans.{cut_stretch}
use Rattle.words.proofs.Outgoing.{outgoing_nil, step_nil}
use Rattle.determinize.specs.Partition.{Part, part_of, partition}
use Rattle.determinize.specs.Determinize.{set_table, sets_and_sink, set_transition, set_transitions, subset_automaton}
use Rattle.determinize.proofs.Parts.{part_out, part_in}
use Rattle.determinize.proofs.Steps.{step_free, step_held}
use Rattle.determinize.proofs.Finished.{table_closed}
use Rattle.determinize.proofs.Runs.{built_bounds, run_end, run_exact, sink_index}
use Rattle.determinize.proofs.Result.{states_at, origin, leaving_built, accept_built}

-- without ranges there is one span
pub cut_nothing : (lower upper : ℕ) → lower ≤ upper → cut_all lower upper [] ≡ record { first = lower; last = upper } ∷ []
unfolding next_cut
cut_nothing lower upper h =
    let z : suc upper - 1 ≡ upper = omega arith in
    cut_step upper [] lower h ∙ rw (z, cut_end upper [] (suc upper) (omega arith))

module _ (lower upper : ℕ) (A : Automaton) (ok : InBounds A) (T : List Set) (e : set_table lower upper A ≡ found T) where
  -- a symbol leads to the sink exactly if no range of the set holds it
  pub holes_sink : (j x : ℕ) → lower ≤ x → x ≤ upper → (index same (step A (get_or T j []) x) T ≡ length T) ↔ (any (holds x) (outgoing A (get_or T j [])) ≡ false)
  holes_sink j x l u =
      let S = get_or T j [] in
      let R = step A S x in (
        λ q.
            ⊎_elim
            (λ (t : any (holds x) (outgoing A S) ≡ true).
            absurd
            (⊎_elim (λ (z : R ≡ []). step_held A ok S x t z) (λ (m : R ∈ T). let k = index_lt same same_decides R m in omega arith)
            (table_closed lower upper A ok T e j x l u)))
            (λ t. t)
            (test (any (holds x) (outgoing A S))),
        λ f. rw (step_free A S x f) (sink_index lower upper A ok T e),
      )

  abbrev D : Automaton
  D = subset_automaton lower upper A T

  span_in : (j : ℕ) → j < D.size → (s : Span) → s ∈ cut_all lower upper (outgoing A (get_or T j [])) → set_transition A T j (get_or T j []) s ∈ D.transitions
  unfolding leaving set_transitions
  span_in j h s m =
      let S = get_or T j [] in
      (filter_out (λ e. eqb e.from j) (set_transition A T j S s) D.transitions (rw (leaving_built lower upper A T j h) (map_in (set_transition A T j S) m))).0

  -- the transitions of a state to which a word leads: each part leads to a set of the table, each hole to the sink
  module _ (w : List ℕ) (j : ℕ) (r : Run D D.start w j) where
    here : get_or T j [] ≡ simulate A (start_set A) w
    here = run_end lower upper A ok T e r

    near : j < D.size
    near = run_bound D (built_bounds lower upper A ok T e) (built_bounds lower upper A ok T e).starts r

    -- words lead to this state exactly where they lead to the same set
    pub state_same : (v : List ℕ) → Word lower upper v → Run D D.start v j ↔ (simulate A (start_set A) v ≡ simulate A (start_set A) w)
    state_same v x = let t = run_exact lower upper A ok T e j near v x in (λ q. t.0 q ∙ here, λ q. t.1 (q ∙ sym here))

    pub part_transition : (p : Part) → p ∈ partition A.size lower upper (outgoing A (simulate A (start_set A) w))
        → (k : ℕ) × (k < length T) × ((record { from = j; kind = 1; first = p.first; last = p.last; to = k }) ∈ D.transitions)
        × (get_or T k [] ≡ step A (simulate A (start_set A) w) p.first)
    unfolding set_transition part_of
    part_transition p m =
        let S = get_or T j [] in
        let x = part_out A.size lower upper (outgoing A S) p (subst (λ R. p ∈ partition A.size lower upper (outgoing A R)) (sym here) m) in
        let s = x.span in
        let v = cut_stretch lower upper (outgoing A S) s x.in in
        let k = index same (step A S s.first) T in
        let i = table_closed lower upper A ok T e j s.first v.above (omega (arith, v.full, v.below)) in
        let l : k < length T =
        ⊎_elim (λ (z : step A S s.first ≡ []). absurd (step_held A ok S s.first x.held z)) (λ i. index_lt same same_decides (step A S s.first) i) i in (
          k,
          l,
          subst (λ (q : Part). (record { from = j; kind = 1; first = q.first; last = q.last; to = k }) ∈ D.transitions) (sym x.is) (span_in j near s x.in),
          at_index T (step A S s.first) i ∙ ap (λ R. step A R s.first) here ∙ ap (λ (q : Part). step A (simulate A (start_set A) w) q.first) (sym x.is),
        )

    pub hole_transition : (s : Span) → s ∈ missing lower upper (outgoing A (simulate A (start_set A) w))
        → (record { from = j; kind = 1; first = s.first; last = s.last; to = length T }) ∈ D.transitions
    unfolding set_transition missing covered
    hole_transition s m =
        let S = get_or T j [] in
        let k = filter_out (λ s. not (covered (outgoing A S) s)) s (cut_all lower upper (outgoing A S)) (subst (λ R. s ∈ missing lower upper (outgoing A R)) (sym here) m) in
        let v = cut_stretch lower upper (outgoing A S) s k.0 in
        rw (sym ((holes_sink j s.first v.above (omega (arith, v.full, v.below))).1 (not-true _ k.1))) (span_in j near s k.0)

    -- each transition that leaves it is that of a part or of a hole
    pub only_transition : (d : Transition) → d ∈ D.transitions → d.from ≡ j
        → ((p : Part) × p ∈ partition A.size lower upper (outgoing A (simulate A (start_set A) w)) × (d.first ≡ p.first) × (d.last ≡ p.last))
        ⊎ ((h : Span) × h ∈ missing lower upper (outgoing A (simulate A (start_set A) w)) × (d.first ≡ h.first) × (d.last ≡ h.last))
    unfolding subset_automaton set_transition part_of missing covered
    only_transition d m f =
        let S = simulate A (start_set A) w in
        let r = origin lower upper A T 0 (sets_and_sink T) d m in
        let s = r.span in
        let g : d.from ≡ 0 + r.place = ap (λ x. x.from) r.is in
        let q : r.place ≡ j = omega arith in
        let i : s ∈ cut_all lower upper (outgoing A S) = subst (λ R. s ∈ cut_all lower upper (outgoing A R)) (states_at T r.place ∙ ap (λ k. get_or T k []) q ∙ here) r.in in
        let a : d.first ≡ s.first = ap (λ x. x.first) r.is in
        let b : d.last ≡ s.last = ap (λ x. x.last) r.is in
        ⊎_elim (λ (t : any (holds s.first) (outgoing A S) ≡ true). inl (part_of A.size (outgoing A S) s, part_in A.size lower upper (outgoing A S) s i t, a, b))
        (λ (t : any (holds s.first) (outgoing A S) ≡ false). inr (s, filter_in (λ s. not (covered (outgoing A S) s)) i (ap not t), a, b))
        (test (any (holds s.first) (outgoing A S)))

  pub sink_loop : lower ≤ upper → leaving D (length T) ≡ record { from = length T; kind = 1; first = lower; last = upper; to = length T } ∷ []
  unfolding set_transitions set_transition
  sink_loop h =
      let n = length T in
      leaving_built lower upper A T n (unfold subset_automaton in omega arith)
      ∙ ap (set_transitions lower upper A T n) (get_or-eq_default T [] (omega arith))
      ∙ ap (map (set_transition A T n [])) (ap (cut_all lower upper) (outgoing_nil A) ∙ cut_nothing lower upper h)
      ∙ ap (λ k. record { from = n; kind = 1; first = lower; last = upper; to = k } ∷ []) (ap (λ R. index same R T) (step_nil A lower) ∙ sink_index lower upper A ok T e)

  pub sink_rejects : get_or D.accept (length T) 0 ≡ 0
  unfolding kind_of
  sink_rejects = accept_built lower upper A T (length T) ∙ ap (kind_of A) (get_or-eq_default T [] (omega arith))
