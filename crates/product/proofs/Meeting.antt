-- Meeting the pairs to which records lead: the laws by which the loops over two runs are proved.
use Rattle.std.proofs.Common.{ℕ, ◌+◌, ◌-◌, ◌≤◌, ◌<◌, None, Some, List, [], ◌∷◌, ◌++◌, map, ◌≡◌, refl, sym, ◌∙◌, ap, subst, rules, get_or, length, take, drop, drop_of_length-le}
use mathlib.Core.List.{map-append}
use Rattle.lists.proofs.Parts.{part_all}
use Rattle.automata.specs.Automaton.{Transition}
use Rattle.automata.specs.Records.{read_records}
use Rattle.automata.specs.inner.Chunks.{records_of}
use Rattle.automata.specs.inner.Records.{record_at}
use Rattle.automata.proofs.Chunks.{records_next, records_done}
use Rattle.ranges.specs.Span.{intersect_ranges}
use Rattle.product.specs.Product.{Joint, joint_of, joints_of}
use Rattle.product.proofs.Records.{run_to, run_left, run_rest, joints_left_behind, joints_left_passed}
use Rattle.product.specs.inner.Tables.{table_of, Queued, PairsMet, RunTo, not_ended, joint_targets}
use Rattle.product.proofs.Joints.{joints_none_left, joints_none_right, joints_left, joints_right, joints_other_left, joints_other_right, joints_two}
use Rattle.product.proofs.Queueing.{met_none, met_with, met_ended, met_full, met_next}

-- two records d and e
module _ (queue t : List ℕ) (n : ℕ) (k : Queued queue t n) (d e : List ℕ) where
  none_met : joints_of (record_at d 0 ∷ []) (record_at e 0 ∷ []) ≡ [] → PairsMet (table_of queue n) (joint_targets (record_at d 0 ∷ []) (record_at e 0 ∷ [])) queue t n
  unfolding joint_targets
  none_met h = rw h (met_none queue t n k)

  pub record_other_left : (get_or d 1 0 ≡ 1 → ⊥) → PairsMet (table_of queue n) (joint_targets (record_at d 0 ∷ []) (record_at e 0 ∷ [])) queue t n
  record_other_left h = none_met (joints_other_left (record_at d 0) (record_at e 0 ∷ []) h)

  pub record_other_right : (get_or e 1 0 ≡ 1 → ⊥) → PairsMet (table_of queue n) (joint_targets (record_at d 0 ∷ []) (record_at e 0 ∷ [])) queue t n
  record_other_right h = none_met (joints_other_right (record_at d 0) (record_at e 0) h)

  module _ (hd : get_or d 1 0 ≡ 1) (he : get_or e 1 0 ≡ 1) where
    pub record_apart : None ≡ intersect_ranges (record { first = get_or d 2 0; last = get_or d 3 0 }) (record { first = get_or e 2 0; last = get_or e 3 0 })
        → PairsMet (table_of queue n) (joint_targets (record_at d 0 ∷ []) (record_at e 0 ∷ [])) queue t n
    unfolding joint_of
    record_apart h =
        none_met (joints_two (record_at d 0) (record_at e 0) hd he ∙ ap (λ o. joint_of o (record { left = get_or d 4 0; right = get_or e 4 0 })) (sym h))

    pub record_met : (a b : ℕ) → Some (record { first = a; last = b }) ≡ intersect_ranges (record { first = get_or d 2 0; last = get_or d 3 0 }) (record { first = get_or e 2 0; last = get_or e 3 0 })
        → (queue' t' : List ℕ) (m : ℕ) → PairsMet (table_of queue n) (record { left = get_or d 4 0; right = get_or e 4 0 } ∷ []) queue' t' m
        → PairsMet (table_of queue n) (joint_targets (record_at d 0 ∷ []) (record_at e 0 ∷ [])) queue' t' m
    unfolding joint_targets joint_of
    record_met a b h queue' t' m r =
        let j : joints_of (record_at d 0 ∷ []) (record_at e 0 ∷ []) ≡ record { span = record { first = a; last = b }; to = record { left = get_or d 4 0; right = get_or e 4 0 } } ∷ [] =
        joints_two (record_at d 0) (record_at e 0) hd he ∙ ap (λ o. joint_of o (record { left = get_or d 4 0; right = get_or e 4 0 })) (sym h) in
        rw j r

pub ruleset record_laws = (record_other_left, record_other_right, record_apart, record_met, rules)

targets_none : (ds es : List Transition) → joints_of ds es ≡ [] → joint_targets ds es ≡ []
unfolding joint_targets
targets_none ds es h = rw h

targets_none_left : (es : List Transition) → joint_targets [] es ≡ []
targets_none_left es = targets_none [] es (joints_none_left es)

targets_none_right : (ds : List Transition) → joint_targets ds [] ≡ []
targets_none_right ds = targets_none ds [] (joints_none_right ds)

targets_left : (d : Transition) (ds es : List Transition) → joint_targets (d ∷ ds) es ≡ joint_targets (d ∷ []) es ++ joint_targets ds es
unfolding joint_targets
targets_left d ds es = ap (map (λ j. j.to)) (joints_left d ds es) ∙ map-append (λ (j : Joint). j.to) (joints_of (d ∷ []) es) (joints_of ds es)

targets_right : (d e : Transition) (es : List Transition) → joint_targets (d ∷ []) (e ∷ es) ≡ joint_targets (d ∷ []) (e ∷ []) ++ joint_targets (d ∷ []) es
unfolding joint_targets
targets_right d e es = ap (map (λ j. j.to)) (joints_right d e es) ∙ map-append (λ (j : Joint). j.to) (joints_of (d ∷ []) (e ∷ [])) (joints_of (d ∷ []) es)

-- a record with those of a run, which are left from an index on
module _ (d queue₀ : List ℕ) (n₀ : ℕ) (es : List Transition) (queue t : List ℕ) (n : ℕ) (rs : List (List ℕ)) (i : ℕ) (k : Queued queue t n)
    (e : met_with queue n (joint_targets (record_at d 0 ∷ []) (records_of (drop i rs))) ≡ met_with queue₀ n₀ (joint_targets (record_at d 0 ∷ []) es)) where
  pub run_ended : length rs ≤ i → PairsMet (table_of queue₀ n₀) (joint_targets (record_at d 0 ∷ []) es) queue t n
  run_ended h =
      met_ended queue t n k (table_of queue₀ n₀) _
      (ap (met_with queue n) (sym (ap (joint_targets (record_at d 0 ∷ [])) (records_done rs i h) ∙ targets_none_right (record_at d 0 ∷ []))) ∙ e ∙ unfold met_with in refl)

  pub run_behind : RunTo 256 (records_of (drop i rs)) → i < length rs → get_or d 3 0 < get_or (get_or rs i []) 2 0
      → PairsMet (table_of queue₀ n₀) (joint_targets (record_at d 0 ∷ []) es) queue t n
  run_behind r h l =
      met_ended queue t n k (table_of queue₀ n₀) _
      (ap (met_with queue n) (sym (targets_none (record_at d 0 ∷ []) (records_of (drop i rs)) (joints_left_behind 256 d rs i r h l))) ∙ e ∙ unfold met_with in refl)

  pub run_next : i < length rs → (queue' t' : List ℕ) (m : ℕ) → PairsMet (table_of queue n) (joint_targets (record_at d 0 ∷ []) (record_at (get_or rs i []) 0 ∷ [])) queue' t' m
      → met_with queue' m (joint_targets (record_at d 0 ∷ []) (records_of (drop (i + 1) rs))) ≡ met_with queue₀ n₀ (joint_targets (record_at d 0 ∷ []) es)
  run_next h queue' t' m r =
      met_next queue queue' t' n m _ _ r
      ∙ ap (met_with queue n)
      (sym (ap (joint_targets (record_at d 0 ∷ [])) (records_next rs i h) ∙ targets_right (record_at d 0) (record_at (get_or rs i []) 0) (records_of (drop (i + 1) rs))))
      ∙ e

pub ruleset run_laws = (run_ended, run_behind, run_to, run_left, run_rest, rules)

-- the records of two runs, of which those of the first are left from an index on, and of the second those that the first may still meet
module _ (queue₀ : List ℕ) (n₀ : ℕ) (ds es : List Transition) (second queue t : List ℕ) (n from : ℕ) (rs : List (List ℕ)) (i : ℕ) (k : Queued queue t n)
    (e : met_with queue n (joint_targets (records_of (drop i rs)) (read_records (drop from second))) ≡ met_with queue₀ n₀ (joint_targets ds es)) where
  pub runs_ended : length rs ≤ i → PairsMet (table_of queue₀ n₀) (joint_targets ds es) queue t n
  runs_ended h =
      met_ended queue t n k (table_of queue₀ n₀) _
      (ap (met_with queue n) (sym (ap (λ l. joint_targets l (read_records (drop from second))) (records_done rs i h) ∙ targets_none_left (read_records (drop from second)))) ∙ e ∙ unfold met_with in refl)

  pub runs_full : 256 < n → PairsMet (table_of queue₀ n₀) (joint_targets ds es) queue t n
  runs_full h = met_full queue t n k (table_of queue₀ n₀) _ h (joint_targets (records_of (drop i rs)) (read_records (drop from second))) (e ∙ unfold met_with in refl)

  module _ (l : ℕ) (r : RunTo l (records_of (drop i rs))) (h : i < length rs) (next : ℕ)
      (p : read_records (drop next second) ≡ not_ended (get_or (get_or rs i []) 2 0) (read_records (drop from second))) where
    passed : joint_targets (records_of (drop i rs)) (read_records (drop from second)) ≡ joint_targets (records_of (drop i rs)) (read_records (drop next second))
    unfolding joint_targets
    passed = ap (map (λ (j : Joint). j.to)) (joints_left_passed l rs i r h (read_records (drop from second)) ∙ ap (joints_of (records_of (drop i rs))) (sym p))

    -- all records of the second run ended before
    pub runs_spent : length second ≤ next → PairsMet (table_of queue₀ n₀) (joint_targets ds es) queue t n
    unfolding read_records
    runs_spent s =
        met_ended queue t n k (table_of queue₀ n₀) _
        (ap (met_with queue n)
        (sym (passed ∙ ap (λ l. joint_targets (records_of (drop i rs)) (read_records l)) (drop_of_length-le second s) ∙ targets_none_right (records_of (drop i rs))))
        ∙ e
        ∙ unfold met_with in refl)

    pub runs_next : (queue' t' : List ℕ) (m : ℕ)
        → PairsMet (table_of queue n) (joint_targets (record_at (get_or rs i []) 0 ∷ []) (read_records (take (length second - next) (drop next second)))) queue' t' m
        → met_with queue' m (joint_targets (records_of (drop (i + 1) rs)) (read_records (drop next second))) ≡ met_with queue₀ n₀ (joint_targets ds es)
    runs_next queue' t' m s =
        met_next queue queue' t' n m _ _ (subst (λ x. PairsMet (table_of queue n) (joint_targets (record_at (get_or rs i []) 0 ∷ []) x) queue' t' m) (ap read_records (part_all next second)) s)
        ∙ ap (met_with queue n)
        (sym (passed ∙ ap (λ l. joint_targets l (read_records (drop next second))) (records_next rs i h)
        ∙ targets_left (record_at (get_or rs i []) 0) (records_of (drop (i + 1) rs)) (read_records (drop next second))))
        ∙ e

pub ruleset runs_laws = (runs_ended, runs_full, run_to, run_left, run_rest, rules)
