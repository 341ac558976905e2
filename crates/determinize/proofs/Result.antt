-- The automaton made from a table: its transitions by state, and that every symbol between the ends has exactly one in every state.
use Rattle.std.proofs.Common.{◌≡◌, ℕ, zero, suc, ◌+◌, ◌<◌, ◌≤◌, Bool, ◌&&◌, eqb, List, [], ◌∷◌, map, length, get_or, sym, refl, ap, ◌∙◌, ⊎_elim, append-nil, arith, length-append, eq-eqb, ne_eqb}
use mathlib.Core.List.Memᴰ
use lib.ListN.{get_or-map}
use Rattle.lists.specs.Lists.{◌∈◌, filter}
use Rattle.lists.proofs.Lists.{filter_append, filter_none, filter_all, filter_map, filter_and}
use Rattle.automata.specs.Automaton.{Transition, Automaton, holds, carries, leaving}
use Rattle.sets.specs.Sets.{Set}
use Rattle.words.specs.Simulation.{outgoing, kind_of}
use Rattle.ranges.specs.Span.{Span}
use Rattle.ranges.proofs.Inside.{inside}
use Rattle.ranges.specs.Cuts.{cut_all}
use Rattle.lists.proofs.Members.{map_out}
use Rattle.ranges.proofs.Spans.{containing}
use Rattle.determinize.specs.Determinize.{sets_and_sink, set_transition, set_transitions, set_transitions_from, subset_automaton}

-- the sink's set is empty, as past the end of the table
pub states_at : (T : List Set) (k : ℕ) → get_or (sets_and_sink T) k [] ≡ get_or T k []
unfolding sets_and_sink
states_at [] zero = refl
states_at [] (suc k) = refl
states_at (S ∷ T) zero = refl
states_at (S ∷ T) (suc k) = states_at T k

pub length_states : (T : List Set) → length (sets_and_sink T) ≡ suc (length T)
unfolding sets_and_sink
length_states T = length-append T ([] ∷ []) ∙ omega arith

module _ (lower upper : ℕ) (A : Automaton) (T : List Set) where
  -- where a transition comes from: a span of a state
  pub record Origin (j : ℕ) (Ss : List Set) (d : Transition) : Type 0 where
    pub place : ℕ
    pub near : place < length Ss
    pub span : Span
    pub «in» : span ∈ cut_all lower upper (outgoing A (get_or Ss place []))
    pub is : d ≡ set_transition A T (j + place) (get_or Ss place []) span

  pub origin : (j : ℕ) (Ss : List Set) (d : Transition) → d ∈ set_transitions_from lower upper A T j Ss → Origin j Ss d
  unfolding set_transitions_from set_transitions
  origin j [] d m = elim m [ ]
  origin j (S ∷ Ss) d m =
      ⊎_elim
      (λ k.
      let r = map_out (set_transition A T j S) (cut_all lower upper (outgoing A S)) d k in
      let z : j ≡ j + 0 = omega arith in
      record { place = 0; near = omega arith; span = r.0; «in» = r.1; is = r.2 ∙ ap (λ i. set_transition A T i S r.0) z })
      (λ k.
      let r = origin (suc j) Ss d k in
      let n = r.near in
      let z : suc j + r.place ≡ j + suc r.place = omega arith in
      record {
        place = suc r.place;
        near = omega arith;
        span = r.span;
        «in» = r.in;
        is = r.is ∙ ap (λ i. set_transition A T i (get_or Ss r.place []) r.span) z;
      })
      (Memᴰ.append_cases (map (set_transition A T j S) (cut_all lower upper (outgoing A S))) m)

  pub from_of : (j : ℕ) (S : Set) (d : Transition) → d ∈ set_transitions lower upper A T j S → d.from ≡ j
  unfolding set_transitions set_transition
  from_of j S d m = ap (λ x. x.from) (map_out (set_transition A T j S) (cut_all lower upper (outgoing A S)) d m).2

  pub from_above : (j : ℕ) (Ss : List Set) (d : Transition) → d ∈ set_transitions_from lower upper A T j Ss → j ≤ d.from
  unfolding set_transition
  from_above j Ss d m = let r = origin j Ss d m in let f = ap (λ x. x.from) r.is in omega arith

  leaving_from_lem : (j : ℕ) (Ss : List Set) (k : ℕ) → k < length Ss
      → filter (λ e. eqb e.from (j + k)) (set_transitions_from lower upper A T j Ss) ≡ set_transitions lower upper A T (j + k) (get_or Ss k [])
  unfolding set_transitions_from
  leaving_from_lem j [] k h = absurd (omega arith)
  leaving_from_lem j (S ∷ Ss) zero h =
      let z : j + 0 ≡ j = omega arith in
      rw z
      (filter_append (λ e. eqb e.from j) (set_transitions lower upper A T j S) _
      ∙ rw (
        filter_all (λ e. eqb e.from j) (set_transitions lower upper A T j S) (λ d m. eq-eqb _ _ (from_of j S d m)),
        filter_none (λ e. eqb e.from j) (set_transitions_from lower upper A T (suc j) Ss) (λ d m. ne_eqb d.from j (λ c. let a = from_above (suc j) Ss d m in omega arith)),
      )
      (append-nil _))
  leaving_from_lem j (S ∷ Ss) (suc k) h =
      let z : j + suc k ≡ suc j + k = omega arith in
      rw z
      (filter_append (λ e. eqb e.from (suc j + k)) (set_transitions lower upper A T j S) _
      ∙ rw (filter_none (λ e. eqb e.from (suc j + k)) (set_transitions lower upper A T j S) (λ d m. ne_eqb d.from (suc j + k) (λ c. let f = from_of j S d m in omega arith)))
      (leaving_from_lem (suc j) Ss k (omega arith)))

  abbrev D : Automaton
  D = subset_automaton lower upper A T

  -- the transitions of a state are those of its set
  pub leaving_built : (j : ℕ) → j < D.size → leaving D j ≡ set_transitions lower upper A T j (get_or T j [])
  unfolding subset_automaton leaving
  leaving_built j h =
      let z : j ≡ 0 + j = omega arith in
      ap (λ i. filter (λ e. eqb e.from i) (set_transitions_from lower upper A T 0 (sets_and_sink T))) z
      ∙ leaving_from_lem 0 (sets_and_sink T) j (omega (arith, length_states T))
      ∙ ap (λ i. set_transitions lower upper A T i (get_or (sets_and_sink T) j [])) (sym z)
      ∙ ap (set_transitions lower upper A T j) (states_at T j)

  pub accept_built : (j : ℕ) → get_or D.accept j 0 ≡ kind_of A (get_or T j [])
  unfolding subset_automaton kind_of
  accept_built j = get_or-map (kind_of A) (sets_and_sink T) j [] ∙ ap (kind_of A) (states_at T j)

  -- every symbol between the ends has exactly one transition in every state
  pub one_built : (j x : ℕ) → j < D.size → lower ≤ x → x ≤ upper → (d : Transition) × (filter (carries j x) D.transitions ≡ d ∷ [])
  unfolding carries leaving set_transitions set_transition inside holds
  one_built j x b l u =
      let S = get_or T j [] in
      let h = containing lower upper (outgoing A S) x l u in
      let f : Transition → Bool = λ e. eqb e.kind 1 && holds x e in (
        set_transition A T j S h.span,
        filter_and (λ e. eqb e.from j) f D.transitions
            ∙ ap (filter f) (leaving_built j b)
            ∙ filter_map f (set_transition A T j S) (inside x) (cut_all lower upper (outgoing A S)) (λ s. refl)
            ∙ ap (map (set_transition A T j S)) h.only,
      )
