-- The number of transitions of the result: the parts and the holes of each set that words reach, and the sink's loop.
use Rattle.std.proofs.Common.{◌≡◌, ℕ, suc, ◌+◌, ◌<◌, ◌≤◌, ltb, ◌⊎◌, ◌↔◌, List, [], ◌∷◌, ◌++◌, length, sym, refl, ap, ◌∙◌, inl, inr, ⊎_elim, arith, length-append, ltb-false, ltb-true}
use mathlib.Core.List.Memᴰ
use lib.ListN.{length-map}
use Rattle.lists.specs.Lists.{◌∈◌, Distinct}
use Rattle.lists.proofs.Tests.{test}
use Rattle.automata.specs.Automaton.{Automaton, InBounds}
use Rattle.automata.specs.WellFormed.{most_transitions}
use Rattle.sets.specs.Sets.{Set}
use Rattle.words.specs.Simulation.{outgoing}
use Rattle.ranges.specs.Cuts.{cut_all}
use Rattle.ranges.specs.Missing.{missing}
use Rattle.ranges.proofs.Cuts.{cut_end}
use Rattle.search.specs.Search.{found}
use Rattle.lists.proofs.Members.{without, without_in, distinct_length}
use Rattle.words.proofs.Outgoing.{outgoing_nil}
use Rattle.determinize.specs.Partition.{partition}
use Rattle.determinize.specs.Determinize.{set_table, sets_and_sink, set_transition, set_transitions, set_transitions_from, subset_automaton}
use Rattle.determinize.specs.Reached.{AllReached, degrees, MoreTransitions}
use Rattle.determinize.proofs.Parts.{part_hole_count}
use Rattle.determinize.proofs.Finished.{table_all}
use Rattle.determinize.proofs.Sink.{cut_nothing}

symbols : (lower upper : ℕ) → (upper < lower) ⊎ (lower ≤ upper)
symbols lower upper = ⊎_elim (λ t. inl (ltb-true upper lower t)) (λ t. inr (ltb-false upper lower t)) (test (ltb upper lower))

module _ (lower upper : ℕ) (A : Automaton) where
  -- the parts and the holes of a set
  abbrev degree : Set → ℕ
  degree S = length (partition A.size lower upper (outgoing A S)) + length (missing lower upper (outgoing A S))

  pub count_from : (T : List Set) (j : ℕ) (Ss : List Set) → length (set_transitions_from lower upper A T j Ss) ≡ degrees lower upper A Ss
  unfolding set_transitions_from set_transitions degrees
  count_from T j [] = refl
  count_from T j (S ∷ Ss) =
      let cs = cut_all lower upper (outgoing A S) in
      omega (
        arith,
        length-append (set_transitions lower upper A T j S) (set_transitions_from lower upper A T (suc j) Ss),
        length-map cs (set_transition A T j S),
        part_hole_count A.size lower upper (outgoing A S),
        count_from T (suc j) Ss,
      )

  degrees_append : (T U : List Set) → degrees lower upper A (T ++ U) ≡ degrees lower upper A T + degrees lower upper A U
  unfolding degrees
  degrees_append [] U = omega arith
  degrees_append (S ∷ T) U = let h = degrees_append T U in omega arith

  degrees_sink : lower ≤ upper → degrees lower upper A ([] ∷ []) ≡ 1
  unfolding degrees
  degrees_sink h =
      omega (arith, part_hole_count A.size lower upper (outgoing A []), ap length (ap (cut_all lower upper) (outgoing_nil A) ∙ cut_nothing lower upper h))

  -- where there is no symbol there is no transition
  degrees_none : upper < lower → (T : List Set) → degrees lower upper A T ≡ 0
  unfolding degrees
  degrees_none h [] = refl
  degrees_none h (S ∷ T) = omega (arith, degrees_none h T, part_hole_count A.size lower upper (outgoing A S), ap length (cut_end upper (outgoing A S) lower h))

  degrees_without : {S : Set} {T : List Set} (m : S ∈ T) → degrees lower upper A T ≡ degree S + degrees lower upper A (without m)
  unfolding degrees without
  degrees_without {T = R ∷ T} (Memᴰ.head e) = ap (λ R. degree R + degrees lower upper A T) (sym e)
  degrees_without (Memᴰ.tail m) = let h = degrees_without m in omega arith

  -- distinct sets that are all in a list have no more transitions than the sets of the list
  degrees_le : (U T : List Set) → Distinct U → ((S : Set) → S ∈ U → S ∈ T) → degrees lower upper A U ≤ degrees lower upper A T
  unfolding degrees
  degrees_le [] T d h = omega arith
  degrees_le (S ∷ U) T (Distinct.more f d) h =
      let m = h S (Memᴰ.head refl) in
      let e = degrees_without m in
      let p = degrees_le U (without m) d (λ R k. without_in m R (h R (Memᴰ.tail k)) (λ q. f (Memᴰ.cast (sym q) k))) in
      omega arith

module _ (lower upper : ℕ) (A : Automaton) (ok : InBounds A) (T : List Set) (e : set_table lower upper A ≡ found T) where
  all : AllReached lower upper A T
  all = table_all lower upper A ok T e

  built_count : length (subset_automaton lower upper A T).transitions ≡ degrees lower upper A T + degrees lower upper A ([] ∷ [])
  unfolding subset_automaton sets_and_sink
  built_count = count_from lower upper A T 0 (T ++ [] ∷ []) ∙ degrees_append lower upper A T ([] ∷ [])

  -- whatever the order in which the sets are listed
  pub listed_states : (U : List Set) → AllReached lower upper A U → (subset_automaton lower upper A T).size ≡ length U + 1
  unfolding subset_automaton
  listed_states U u =
      let a = distinct_length U T u.good.distinct (λ S m. all.whole S (u.good.reached S m) (u.good.nonempty S m)) in
      let b = distinct_length T U all.good.distinct (λ S m. u.whole S (all.good.reached S m) (all.good.nonempty S m)) in
      omega arith

  pub listed_transitions : lower ≤ upper → (U : List Set) → AllReached lower upper A U → length (subset_automaton lower upper A T).transitions ≡ degrees lower upper A U + 1
  listed_transitions h U u =
      let a = degrees_le lower upper A U T u.good.distinct (λ S m. all.whole S (u.good.reached S m) (u.good.nonempty S m)) in
      let b = degrees_le lower upper A T U all.good.distinct (λ S m. u.whole S (all.good.reached S m) (all.good.nonempty S m)) in
      omega (arith, built_count, degrees_sink lower upper A h)

  pub many_exact : (most_transitions < length (subset_automaton lower upper A T).transitions) ↔ MoreTransitions most_transitions lower upper A
  many_exact = (
    λ h.
        ⊎_elim (λ (l : upper < lower). absurd (omega (arith, built_count, degrees_none lower upper A l T, degrees_none lower upper A l ([] ∷ []))))
        (λ (l : lower ≤ upper). (T, all, omega (arith, listed_transitions l T all)))
        (symbols lower upper),
    λ m.
        ⊎_elim (λ (l : upper < lower). absurd (omega (arith, m.2, degrees_none lower upper A l m.0))) (λ (l : lower ≤ upper). omega (arith, m.2, listed_transitions l m.0 m.1))
        (symbols lower upper),
  )
